use Rattle.std.proofs.Common.{◌≡◌, ◌<◌, All, length}
use Rattle.std.specs.Prelude.{IfSome}
use Rattle.std.specs.Vec.Iter.{into_iter_items}
use Rattle.gpu_bench.specs.Devices.{IsJobOf}
use Rattle.gpu_bench.proofs.workers.submit_all.Given as goal

abbrev pub invariant-loop-job : goal.invariant-loop-job
invariant-loop-job g l = (l.pass.gpu ≡ l.gpu) × IfSome l.run_on (λ ring. ring < length l.gpu.spec.rings) × All (IsJobOf l.gpu.spec) (into_iter_items l.job-iterator)
