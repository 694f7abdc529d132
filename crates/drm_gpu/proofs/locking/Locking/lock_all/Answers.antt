use Rattle.std.proofs.Common.{◌∙◌, false, ap, sym, subst}
use Rattle.drm_job.specs.declared.Draft.{Draft}
use Rattle.drm_job.specs.Fault.{IsJob}
use Rattle.drm_state.specs.Held.{kept_of, HoldsAll}
use Rattle.drm_gpu.specs.Submissions.{Submission, DeviceAcquire, HasTaken, HoldsNoMore, LocksAll, submission_of}
use Rattle.drm_gpu.proofs.Claims.{done_on, holds_no_more, no_more_kept, shows_taken}
use Rattle.drm_gpu.proofs.Holders.{holds}
use Rattle.drm_gpu.proofs.locking.Locking.lock_all.Goals as goal

pub hold_all-requires-clause-job : goal.hold_all-requires-clause-job
hold_all-requires-clause-job g c = subst (IsJob c.self.inside.gpu.now.spec) (sym c.job.ensures) c.self.invariant.2

pub done-requires : goal.done-requires
done-requires g c = c.hold_all.ensures.rounds.sealed ∙ c.self.invariant.1

pub invariant_of-result : goal.invariant_of-result
invariant_of-result g c =
    let gpu = c.self.inside.gpu.now in
    let job = c.self.inside.plan.job in
    let a = c.hold_all.new.acquire in
    let b = c.done.new.self in
    let e = c.done.ensures in
    let k = c.hold_all.ensures.rounds.holding in
    let all : HoldsAll job (kept_of a.seat.held.items) = subst (λ (j : Draft). HoldsAll j (kept_of a.seat.held.items)) c.job.ensures c.hold_all.ensures.all in (
      done_on gpu a b k (e.holds false gpu.home (holds gpu a k)) e.sealed,
      ap (λ (z : DeviceAcquire). z.sealed) e.sealed,
      c.self.invariant.2,
      subst (λ (z : DeviceAcquire). HoldsAll job (kept_of z.seat.held.items)) (sym e.sealed) all,
    )

pub returns-clause-only : goal.returns-clause-only
returns-clause-only g c =
    let job = c.self.inside.plan.job in
    let taken : HasTaken c.self.inside.gpu.now job c.self.inside.acquire c.hold_all.new.acquire =
    subst (λ (j : Draft). HasTaken c.self.inside.gpu.now j c.self.inside.acquire c.hold_all.new.acquire) c.job.ensures c.hold_all.ensures.rounds in
    subst (λ (z : DeviceAcquire). HoldsNoMore job c.args.self.held (kept_of z.seat.held.items)) (sym c.done.ensures.sealed)
    (subst (λ (s : Submission). HoldsNoMore job s.held (kept_of c.hold_all.new.acquire.seat.held.items)) c.self.view_is
    (no_more_kept job c.self.inside.acquire.seat.held.items c.hold_all.new.acquire.seat.held.items (holds_no_more c.self.inside.gpu.now job c.self.inside.acquire c.hold_all.new.acquire taken)))

pub returns-clause-rounds : goal.returns-clause-rounds
returns-clause-rounds g c =
    let home = c.self.inside.gpu.now.home in
    let job = c.self.inside.plan.job in
    let taken : HasTaken c.self.inside.gpu.now job c.self.inside.acquire c.hold_all.new.acquire =
    subst (λ (j : Draft). HasTaken c.self.inside.gpu.now j c.self.inside.acquire c.hold_all.new.acquire) c.job.ensures c.hold_all.ensures.rounds in
    subst (λ (z : DeviceAcquire). LocksAll c.args.self (submission_of home job z)) (sym c.done.ensures.sealed)
    (subst (λ (s : Submission). LocksAll s (submission_of home job c.hold_all.new.acquire)) c.self.view_is (shows_taken c.self.inside.gpu.now job c.self.inside.acquire c.hold_all.new.acquire taken))
