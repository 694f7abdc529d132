use Rattle.std.proofs.Common.{All}
use Rattle.drm_job.specs.Fault.{IsJob}
use Rattle.drm_gpu_tests.specs.Pairs.{pair_of}
use Rattle.drm_workers_tests.proofs.held_up.share_of.Given as goal

-- those so far are jobs of a pair
abbrev pub invariant-loop : goal.invariant-loop
invariant-loop l = All (IsJob (pair_of 8)) l.jobs.items
