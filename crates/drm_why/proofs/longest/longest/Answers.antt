use Rattle.std.proofs.Common.{arith}
use Rattle.drm_why.proofs.longest.longest.Goals as goal

pub loop-number-init : goal.loop-number-init
loop-number-init c = λ i other less held. absurd (omega (arith, less))
