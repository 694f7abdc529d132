use Rattle.std.proofs.Common.{◌≡◌, take}
use Rattle.drm_engine.proofs.comparison.first_difference.Given as goal

abbrev pub invariant-loop-place : goal.invariant-loop-place
invariant-loop-place l = take l.place l.left ≡ take l.place l.told
