use Rattle.std.proofs.Common.{[], flat_map, take}
use Rattle.drm_svg.specs.Pens.{Adds}
use Rattle.drm_svg.specs.Svg.{mark_text}
use Rattle.drm_svg.proofs.svg.put_marks.Given as goal

abbrev pub invariant-loop-mark : goal.invariant-loop-mark
invariant-loop-mark l = Adds l.fn.out.items [] (flat_map (mark_text l.picture l.layout) (take l.mark-index l.picture.marks.items)) l.out.items l.pen
