use Rattle.std.proofs.Common.{rules}
use Rattle.drm_fence.proofs.waiters.Waiters.fences.Goals as goal

pub returns : goal.returns
returns c = search rules
