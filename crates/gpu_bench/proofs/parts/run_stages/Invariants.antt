use Rattle.std.proofs.Common.{All}
use Rattle.gpu_bench.specs.Devices.{WorksOn}
use Rattle.gpu_bench.proofs.parts.run_stages.Given as goal

abbrev pub invariant-loop-stage : goal.invariant-loop-stage
invariant-loop-stage g l = All (WorksOn l.gpu) l.workers.items
