use Rattle.std.proofs.Common.{◌≡◌, take}
use Rattle.drm_svg.specs.Layout.{fences_below}
use Rattle.drm_svg.proofs.layout.place_fences.Given as goal

abbrev pub invariant-loop-place : goal.invariant-loop-place
invariant-loop-place l = l.placed.items ≡ fences_below l.picture l.header (take l.place l.fences)
