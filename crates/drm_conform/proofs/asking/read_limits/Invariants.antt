use Rattle.std.proofs.Common.{◌≡◌, length}
use Rattle.drm_conform.specs.Asked.{limits_behind, limits_told}
use Rattle.drm_conform.proofs.asking.read_limits.Given as goal

abbrev pub invariant-loop-piece : goal.invariant-loop-piece
invariant-loop-piece l = limits_behind l.limits l.pieces.parts ≡ limits_told l.fn.text

abbrev pub decreases-loop-piece : goal.decreases-loop-piece
decreases-loop-piece l = length l.pieces.parts
