use Rattle.std.proofs.Common.{◌≡◌, All, Global, Vec, vec_len}
use Rattle.drm_job.specs.declared.job.Job.{Job}
use Rattle.drm_job.specs.Fault.{IsJob}
use Rattle.drm_gpu_tests.specs.Pairs.{pair_of}
use Rattle.drm_workers_tests.proofs.held_up.shares.Given as goal

-- so many shares as entities, of jobs of a pair
abbrev pub invariant-loop-entity : goal.invariant-loop-entity
invariant-loop-entity l = All (λ (share : Vec Job Global). All (IsJob (pair_of 8)) share.items) l.shares.items × (vec_len l.shares ≡ l.entity)
