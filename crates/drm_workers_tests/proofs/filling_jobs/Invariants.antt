use Rattle.std.proofs.Common.{◌≡◌, All, vec_len}
use Rattle.drm_job.specs.Fault.{IsJob}
use Rattle.drm_gpu_tests.specs.Pairs.{pair_of}
use Rattle.drm_workers_tests.proofs.filling_jobs.Given as goal

-- so many jobs of a pair as places
abbrev pub invariant-loop-place : goal.invariant-loop-place
invariant-loop-place l = All (IsJob (pair_of 8)) l.jobs.items × (vec_len l.jobs ≡ l.place)
