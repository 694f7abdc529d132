use Rattle.std.proofs.Common.{◌≡◌}
use Rattle.gpu_soak.proofs.driving.drive.Given as goal

abbrev pub invariant-loop : goal.invariant-loop
invariant-loop g l = l.pass.gpu ≡ l.gpu
