use Rattle.std.proofs.Common.{◌≡◌}
use Rattle.drm_gpu_tests.proofs.threads.work.Given as goal

abbrev pub invariant-loop-round : goal.invariant-loop-round
invariant-loop-round g l = l.worker.pass.gpu ≡ l.gpu
