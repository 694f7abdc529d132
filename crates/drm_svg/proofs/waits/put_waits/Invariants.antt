use Rattle.std.proofs.Common.{[], flat_map, take}
use Rattle.drm_svg.specs.Waits.{wait_text}
use Rattle.drm_svg.specs.Pens.{Adds}
use Rattle.drm_svg.proofs.waits.put_waits.Given as goal

abbrev pub invariant-loop-wait : goal.invariant-loop-wait
invariant-loop-wait l = Adds l.fn.out.items [] (flat_map (wait_text l.picture l.layout) (take l.wait-index l.picture.waits.items)) l.out.items l.pen
