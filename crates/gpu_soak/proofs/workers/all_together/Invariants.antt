use Rattle.std.proofs.Common.{◌≡◌, All}
use Rattle.std.specs.Vec.Iter.{into_iter_items}
use Rattle.gpu_soak.proofs.workers.all_together.Given as goal

abbrev pub invariant-loop-worker : goal.invariant-loop-worker
invariant-loop-worker l = (l.all.pass.gpu ≡ l.gpu) × All (λ w. w.pass.gpu ≡ l.gpu) (into_iter_items l.worker-iterator)
