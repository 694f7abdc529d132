use Rattle.std.proofs.Common.{◌≡◌}
use Rattle.gpu_soak.proofs.driving.drain.Given as goal

abbrev pub invariant-loop-round : goal.invariant-loop-round
invariant-loop-round g l = l.pass.gpu ≡ l.gpu
