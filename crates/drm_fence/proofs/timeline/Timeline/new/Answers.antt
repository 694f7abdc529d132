use Rattle.std.proofs.Common.{rules}
use Rattle.drm_fence.proofs.timeline.Timeline.new.Goals as goal

pub returns : goal.returns
returns c = search rules
