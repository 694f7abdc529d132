use Rattle.std.proofs.Common.{arith, subst, sym}
use Rattle.drm_expect.specs.Matching.{AreExpectedBefore}
use Rattle.drm_expect.proofs.Given.{expected_more}
use Rattle.drm_expect.proofs.testing.first_difference.Goals as goal

pub loop-place-init : goal.loop-place-init
loop-place-init c = λ i less. absurd (omega (arith, less))
