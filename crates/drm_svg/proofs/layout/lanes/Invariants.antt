use Rattle.std.proofs.Common.{◌≡◌, ◌++◌}
use Rattle.drm_picture.specs.declared.bars.Lane.TheVariants as lane
use Rattle.drm_svg.specs.Layout.{below}
use Rattle.drm_svg.proofs.layout.lanes.Given as goal

abbrev pub invariant-loop-ring : goal.invariant-loop-ring
invariant-loop-ring l = l.lanes.items ≡ below lane.Ring l.ring

abbrev pub invariant-loop-entity : goal.invariant-loop-entity
invariant-loop-entity l = l.lanes.items ≡ below lane.Ring l.fn.shape.rings ++ below lane.Entity l.entity

abbrev pub invariant-loop-buffer : goal.invariant-loop-buffer
invariant-loop-buffer l = l.lanes.items ≡ below lane.Ring l.fn.shape.rings ++ below lane.Entity l.fn.shape.entities ++ below lane.Buffer l.buffer
