use Rattle.std.proofs.Common.{◌≡◌, take}
use Rattle.drm_gpu_tests.proofs.job_of.Given as goal

abbrev pub invariant-loop-buffer : goal.invariant-loop-buffer
invariant-loop-buffer l = l.list ≡ take l.buffer-index l.declared
