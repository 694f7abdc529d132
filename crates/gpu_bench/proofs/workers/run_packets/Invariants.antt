use Rattle.std.proofs.Common.{◌≡◌}
use Rattle.gpu_bench.proofs.workers.run_packets.Given as goal

abbrev pub invariant-loop : goal.invariant-loop
invariant-loop g l = l.pass.gpu ≡ l.gpu
