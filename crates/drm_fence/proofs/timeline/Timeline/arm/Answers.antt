use Rattle.std.proofs.Common.{rules}
use Rattle.drm_fence.proofs.timeline.Timeline.arm.Goals as goal

pub returns-clause-number : goal.returns-clause-number
returns-clause-number c = search rules

pub returns-clause-armed : goal.returns-clause-armed
returns-clause-armed c = search rules
