use Rattle.drm_progress.proofs.Falls.{each_falls}
use Rattle.drm_progress.proofs.work_falls.Goals as goal

pub returns : goal.returns
returns c = each_falls c.devices_stay_steady.ensures c.choice_is_least.ensures
