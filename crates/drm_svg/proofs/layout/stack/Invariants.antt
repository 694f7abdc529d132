use Rattle.std.proofs.Common.{length, take}
use Rattle.drm_svg.specs.Layout.{AreLanes}
use Rattle.drm_svg.proofs.layout.stack.Given as goal

abbrev pub invariant-loop-lane : goal.invariant-loop-lane
invariant-loop-lane l = AreLanes l.picture (take l.lane-index l.lanes) l.rows.items (length l.ends.items)
