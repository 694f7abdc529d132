use Rattle.std.proofs.Common.{◌≡◌, ◌<◌, length, []}
use Rattle.drm_gpu_tests.proofs.calling.lock_both.Given as goal

abbrev pub invariant-loop : goal.invariant-loop
invariant-loop g l = record {
  next : l.next < length l.fn.locking.pass.gpu.spec.buffers;
  other : l.other < length l.fn.locking.pass.gpu.spec.buffers;
  empty : l.locking.held ≡ [];
  gpu : l.locking.pass.gpu ≡ l.fn.locking.pass.gpu;
  job : l.locking.job ≡ l.fn.locking.job;
}
