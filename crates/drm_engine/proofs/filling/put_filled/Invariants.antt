use Rattle.std.proofs.Common.{ℕ, List, ◌++◌, length}
use Rattle.drm_engine.specs.Replaying.{ToldSoFar}
use Rattle.drm_engine.proofs.Fillings.{IsFilled}
use Rattle.drm_engine.proofs.filling.put_filled.Given as goal

abbrev pub invariant-loop-place : goal.invariant-loop-place
invariant-loop-place g l =
    (said : List ℕ) × IsFilled l.words l.numbers l.left said l.rest × ToldSoFar l.fn.writer l.writer (l.fn.piece ++ said) l.piece

abbrev pub decreases-loop-place : goal.decreases-loop-place
decreases-loop-place g l = length l.rest
