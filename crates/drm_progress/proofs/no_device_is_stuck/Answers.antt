use Rattle.drm_progress.proofs.Stuck.{never_stuck}
use Rattle.drm_progress.proofs.no_device_is_stuck.Goals as goal

pub returns : goal.returns
returns c = never_stuck c.choice_is_least.ensures
