use Rattle.std.proofs.Common.{◌≡◌, []}
use Rattle.gpu_soak.proofs.submitting.lock_each.Given as goal

abbrev pub invariant-loop : goal.invariant-loop
invariant-loop g l = (l.locking.pass.gpu ≡ l.fn.locking.pass.gpu) × (l.locking.job ≡ l.fn.locking.job) × (l.locking.held ≡ [])
