use Rattle.std.proofs.Common.{◌≡◌}
use Rattle.drm_gpu_tests.proofs.outside.run_late.Given as goal

abbrev pub invariant-loop : goal.invariant-loop
invariant-loop g l = l.pass.gpu ≡ l.gpu
