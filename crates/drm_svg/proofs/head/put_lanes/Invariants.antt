use Rattle.std.proofs.Common.{[], flat_map, take}
use Rattle.drm_svg.specs.Head.{lane_text}
use Rattle.drm_svg.specs.Pens.{Adds}
use Rattle.drm_svg.proofs.head.put_lanes.Given as goal

abbrev pub invariant-loop-rows : goal.invariant-loop-rows
invariant-loop-rows l = Adds l.fn.out.items [] (flat_map (lane_text l.picture) (take l.rows-index l.lanes)) l.out.items l.pen
