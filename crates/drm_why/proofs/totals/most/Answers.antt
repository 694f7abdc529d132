use Rattle.std.proofs.Common.{arith}
use Rattle.drm_why.proofs.totals.most.Goals as goal

pub loop-number-init : goal.loop-number-init
loop-number-init c = λ i fence less held. absurd (omega (arith, less))
