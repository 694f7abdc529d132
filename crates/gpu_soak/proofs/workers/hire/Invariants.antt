use Rattle.std.proofs.Common.{◌≡◌, All}
use Rattle.gpu_soak.proofs.workers.hire.Given as goal

abbrev pub invariant-loop-number : goal.invariant-loop-number
invariant-loop-number l = All (λ w. w.pass.gpu ≡ l.gpu) l.workers.items × (l.left.gpu ≡ l.gpu)
