use Rattle.std.proofs.Common.{[], flat_map, take}
use Rattle.drm_svg.specs.Bars.{halt_text}
use Rattle.drm_svg.specs.Layout.{placed_at, row_of_lane}
use Rattle.drm_svg.specs.Pens.{Adds}
use Rattle.drm_svg.proofs.bars.put_halts.Given as goal

abbrev pub invariant-loop-bar : goal.invariant-loop-bar
invariant-loop-bar l =
    Adds l.fn.out.items [] (flat_map (λ bar. halt_text (placed_at l.picture (row_of_lane l.layout bar.opening.lane) bar)) (take l.bar-index l.picture.stopped.items)) l.out.items l.pen
