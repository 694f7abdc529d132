use Rattle.std.proofs.Common.{◌≡◌}
use Rattle.gpu_bench.specs.Devices.{WorksOn}
use Rattle.gpu_bench.proofs.workers.drive.Given as goal

abbrev pub invariant-loop : goal.invariant-loop
invariant-loop g l = WorksOn l.gpu l.worker × (l.ring ≡ l.worker.ring)
