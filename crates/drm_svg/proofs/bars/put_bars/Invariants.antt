use Rattle.std.proofs.Common.{take}
use Rattle.drm_svg.specs.Bars.{bars_text}
use Rattle.drm_svg.specs.Pens.{Adds}
use Rattle.drm_svg.proofs.bars.put_bars.Given as goal

abbrev pub invariant-loop-bar : goal.invariant-loop-bar
invariant-loop-bar l = Adds l.fn.out.items l.fn.pen (bars_text l.picture (take l.bar-index l.bars)) l.out.items l.pen
