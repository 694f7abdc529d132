use Rattle.drm_progress.proofs.Runs.{every_core_goes_on as goes_on}
use Rattle.drm_progress.proofs.every_core_goes_on.Goals as goal

pub returns : goal.returns
returns c = goes_on c.devices_stay_steady.ensures c.choice_is_least.ensures c.every_run_is_lawful.ensures
