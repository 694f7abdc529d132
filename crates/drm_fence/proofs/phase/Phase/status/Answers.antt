use Rattle.std.proofs.Common.{rules}
use Rattle.drm_fence.proofs.phase.Phase.status.Goals as goal

pub returns-in-Ended-Cancelled : goal.returns-in-Ended-Cancelled
returns-in-Ended-Cancelled c = search rules
