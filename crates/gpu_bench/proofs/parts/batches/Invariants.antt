use Rattle.std.proofs.Common.{All}
use Rattle.gpu_bench.specs.Devices.{IsBatch}
use Rattle.gpu_bench.proofs.parts.batches.Given as goal

abbrev pub invariant-loop-ring : goal.invariant-loop-ring
invariant-loop-ring l = All (IsBatch l.spec) l.batches.items
