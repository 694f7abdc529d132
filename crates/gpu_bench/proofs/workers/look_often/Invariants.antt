use Rattle.gpu_bench.specs.Devices.{WorksOn}
use Rattle.gpu_bench.proofs.workers.look_often.Given as goal

abbrev pub invariant-loop : goal.invariant-loop
invariant-loop l = WorksOn l.gpu l.worker
