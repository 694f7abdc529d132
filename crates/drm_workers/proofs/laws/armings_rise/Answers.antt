use Rattle.drm_workers.proofs.Ordered.{armings_rise}
use Rattle.drm_workers.proofs.laws.armings_rise.Goals as goal

pub returns : goal.returns
returns c = armings_rise
