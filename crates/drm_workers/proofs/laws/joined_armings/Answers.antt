use Rattle.drm_workers.proofs.Ordered.{joined_armings}
use Rattle.drm_workers.proofs.laws.joined_armings.Goals as goal

pub returns : goal.returns
returns c = joined_armings
