use Rattle.std.proofs.Common.{◌≡◌}
use Rattle.drm_gpu_tests.proofs.threads.drive.Given as goal

abbrev pub invariant-loop : goal.invariant-loop
invariant-loop g l = l.worker.pass.gpu ≡ l.gpu
