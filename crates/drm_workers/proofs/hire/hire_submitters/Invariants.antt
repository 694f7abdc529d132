use Rattle.std.proofs.Common.{◌≡◌, ◌++◌, [], All, map}
use Rattle.std.specs.Vec.Iter.{into_iter_items}
use Rattle.drm_job.specs.Fault.{IsJob}
use Rattle.drm_workers.specs.Works.{HaveAll, MayWork, jobs_of}
use Rattle.drm_workers.proofs.hire.hire_submitters.Given as goal

-- the lists of those that are hired and of the shares that are left are those of all
abbrev pub invariant-loop-jobs : goal.invariant-loop-jobs
invariant-loop-jobs l =
    (l.pass.gpu ≡ l.gpu) × (l.pass.calls ≡ []) × All (λ share. All (IsJob l.gpu.spec) share.items) (into_iter_items l.jobs-iterator)
    × (map (λ w. jobs_of w.duty) l.workers.items ++ map (λ share. share.items) (into_iter_items l.jobs-iterator)
    ≡ map (λ w. jobs_of w.duty) l.fn.workers.items ++ map (λ share. share.items) l.fn.shares.items)
    × (All (MayWork l.gpu) l.fn.workers.items → All (MayWork l.gpu) l.workers.items)
    × (HaveAll l.fn.pass.part l.fn.workers.items → HaveAll l.pass.part l.workers.items)
