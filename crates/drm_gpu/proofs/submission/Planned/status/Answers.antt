use Rattle.std.proofs.Common.{sym, subst}
use Rattle.drm_state.specs.Collected.{CoverWhereFit}
use Rattle.drm_state.specs.Held.{kept_of, HoldsAll, HaveRoom}
use Rattle.drm_gpu.proofs.Holders.{holding_on}
use Rattle.drm_gpu.proofs.submission.Planned.status.Goals as goal

pub invariant_of-self : goal.invariant_of-self
invariant_of-self c =
    let e = c.status_at.ensures in
    let i = c.self.invariant in
    let plan = c.self.inside.plan in
    let back = sym e.holds.0.1 in (
      holding_on c.self.inside.gpu.now c.self.inside.acquire c.status_at.new.seat i.0.own i.0.idle e.holds e.seat,
      i.1,
      i.2,
      subst (λ hs. HoldsAll plan.job (kept_of hs.items)) back i.3,
      subst (λ hs. CoverWhereFit plan.job (kept_of hs.items) plan.deps) back i.4,
      subst (λ hs. HaveRoom plan.job hs.items) back i.5,
    )
