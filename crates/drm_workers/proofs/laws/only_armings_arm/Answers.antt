use Rattle.drm_workers.proofs.Arms.{only_armings_arm}
use Rattle.drm_workers.proofs.laws.only_armings_arm.Goals as goal

pub returns : goal.returns
returns c = only_armings_arm
