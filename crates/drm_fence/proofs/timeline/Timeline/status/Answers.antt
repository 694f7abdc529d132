use Rattle.std.proofs.Common.{rules}
use Rattle.drm_fence.proofs.timeline.Timeline.status.Goals as goal

pub returns-in-Some-clause-not_armed : goal.returns-in-Some-clause-not_armed
returns-in-Some-clause-not_armed c = search rules

pub returns-in-None-clause-ok : goal.returns-in-None-clause-ok
returns-in-None-clause-ok c = search rules
