use Rattle.std.proofs.Common.{◌≡◌, List, ◌++◌, take}
use Rattle.drm_picture.specs.declared.bars.Bar.{Bar}
use Rattle.drm_svg.specs.Layout.{bars_of_kind}
use Rattle.drm_svg.specs.Placing.{ArePlaced, AreTaken}
use Rattle.drm_svg.proofs.placing.place_bars.Given as goal

abbrev pub invariant-loop-bar : goal.invariant-loop-bar
invariant-loop-bar l = ArePlaced l.picture l.lane l.first (take l.bar-index l.all) l.bars.items l.ends.items × AreTaken l.first l.ends.items l.taken

abbrev pub invariant-loop-next : goal.invariant-loop-next
invariant-loop-next l =
    (all : List Bar) × (bars_of_kind l.picture l.lane ≡ all ++ l.more) × ArePlaced l.picture l.lane l.first (all ++ take l.next-index l.more) l.bars.items l.ends.items
    × AreTaken l.first l.ends.items l.taken
