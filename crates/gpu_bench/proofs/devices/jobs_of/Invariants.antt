use Rattle.std.proofs.Common.{All}
use Rattle.gpu_bench.specs.Devices.{IsJobOf}
use Rattle.gpu_bench.proofs.devices.jobs_of.Given as goal

abbrev pub invariant-loop : goal.invariant-loop
invariant-loop l = All (IsJobOf l.spec) l.jobs.items
