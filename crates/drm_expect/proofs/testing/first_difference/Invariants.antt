use Rattle.drm_expect.specs.Matching.{AreExpectedBefore}
use Rattle.drm_expect.proofs.testing.first_difference.Given as goal

abbrev pub invariant-loop-place : goal.invariant-loop-place
invariant-loop-place l = AreExpectedBefore l.lines l.answers l.place
