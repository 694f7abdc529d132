use Rattle.std.proofs.Common.{refl, false, ap, sym, subst}
use Rattle.drm_job.specs.declared.Draft.{Draft}
use Rattle.drm_state.specs.Held.{kept_of, HoldsAll}
use Rattle.drm_gpu.specs.Submissions.{Submission, DeviceAcquire}
use Rattle.drm_gpu.proofs.Claims.{done_on}
use Rattle.drm_gpu.proofs.Holders.{holds}
use Rattle.drm_gpu.proofs.locking.Locking.ready.Goals as goal

pub invariant_of-result : goal.invariant_of-result
invariant_of-result c =
    let gpu = c.self.inside.gpu.now in
    let job = c.self.inside.plan.job in
    let a = c.self.inside.acquire in
    let b = c.done.new.self in
    let e = c.done.ensures in
    let all : HoldsAll job (kept_of c.held.result.now) = subst (λ (j : Draft). HoldsAll j (kept_of c.held.result.now)) c.job.ensures (c.holds_all.ensures.all c.if-not-holds_all.false) in (
      done_on gpu a b c.self.invariant.0 (e.holds false gpu.home (holds gpu a c.self.invariant.0)) e.sealed,
      ap (λ (z : DeviceAcquire). z.sealed) e.sealed,
      c.self.invariant.2,
      subst (λ (z : DeviceAcquire). HoldsAll job (kept_of z.seat.held.items)) (sym e.sealed) (subst (λ hs. HoldsAll job (kept_of hs)) c.held.ensures all),
    )

pub returns-then-not-holds_all-clause-not_all : goal.returns-then-not-holds_all-clause-not_all
returns-then-not-holds_all-clause-not_all c = (
  refl,
  λ all. c.holds_all.ensures.lacks c.if-not-holds_all.true
      (subst (λ (j : Draft). HoldsAll j (kept_of c.held.result.now)) (sym c.job.ensures)
      (subst (λ hs. HoldsAll c.self.inside.plan.job (kept_of hs)) (sym c.held.ensures) (subst (λ (s : Submission). HoldsAll s.job s.held) (sym c.self.view_is) all))),
)
