use Rattle.std.proofs.Common.{rules}
use Rattle.drm_fence.proofs.phase.Phase.is_ended.Goals as goal

pub returns-in-Scheduled : goal.returns-in-Scheduled
returns-in-Scheduled c = search rules
