use Rattle.std.proofs.Common.{rules}
use Rattle.drm_fence.proofs.timeline.Timeline.is_full.Goals as goal

pub returns : goal.returns
returns c = search rules
