use Rattle.std.proofs.Common.{◌≡◌, ◌≤◌, ◌+◌, All, List, ℕ, ◌++◌, vec_len, vec_capacity}
use Rattle.std.specs.Vec.Iter.{into_iter_items, into_iter_len}
use Rattle.drm_job.specs.Fault.{IsJob}
use Rattle.drm_gpu.specs.Passes.{GrowsTo}
use Rattle.drm_sched.specs.Marks.{MarkedDevice}
use Rattle.drm_workers.specs.Numbers.{armings}
use Rattle.drm_workers.specs.Jobs.{AreJobsOf}
use Rattle.drm_workers.proofs.submit.submit_all.Given as goal

-- whatever the device grows to and fits the jobs that are left, fits all of them behind what is armed
abbrev pub invariant-loop-job : goal.invariant-loop-job
invariant-loop-job g l =
    (l.pass.gpu ≡ l.gpu) × (armings l.pass.calls ≡ l.armed.items) × All (IsJob l.gpu.spec) (into_iter_items l.job-iterator)
    × ((d : MarkedDevice) (ns : List ℕ) → GrowsTo l.pass.last d → AreJobsOf d.state.journal ns (into_iter_items l.job-iterator)
    → AreJobsOf d.state.journal (l.armed.items ++ ns) l.fn.jobs.items)
    × (vec_len l.armed + into_iter_len l.job-iterator ≤ vec_capacity l.armed) × (l.pass.part ≡ l.fn.pass.part)
