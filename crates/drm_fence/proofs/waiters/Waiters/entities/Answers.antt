use Rattle.std.proofs.Common.{rules}
use Rattle.drm_fence.proofs.waiters.Waiters.entities.Goals as goal

pub returns : goal.returns
returns c = search rules
