use Rattle.std.proofs.Common.{◌≡◌}
use Rattle.gpu_soak.proofs.workers.work.Given as goal

abbrev pub invariant-loop : goal.invariant-loop
invariant-loop g l = l.worker.pass.gpu ≡ l.gpu
