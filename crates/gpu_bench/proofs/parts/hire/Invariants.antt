use Rattle.std.proofs.Common.{◌≡◌, All}
use Rattle.std.specs.Vec.Iter.{into_iter_items}
use Rattle.gpu_bench.specs.Devices.{IsBatch, WorksOn}
use Rattle.gpu_bench.proofs.parts.hire.Given as goal

abbrev pub invariant-loop-batch : goal.invariant-loop-batch
invariant-loop-batch l = All (WorksOn l.gpu) l.workers.items × (l.left.gpu ≡ l.gpu) × All (IsBatch l.gpu.spec) (into_iter_items l.batch-iterator)
