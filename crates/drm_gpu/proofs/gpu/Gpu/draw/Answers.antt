use Rattle.std.proofs.Common.{◌≡◌, ◌∙◌, ap, sym, subst, false}
use Rattle.ww_lock.specs.Acquiring.{HoldsOutside}
use Rattle.ww_lock.specs.Seats.{sees}
use Rattle.drm_gpu.specs.Passes.{GpuState, PassState, Seeing, Knows, last_of, pass_of}
use Rattle.drm_gpu.specs.Submissions.{IsNewTicket, draws}
use Rattle.drm_gpu.proofs.Chains.{idle_pass, knows_same}
use Rattle.drm_gpu.proofs.Holders.{holds_nothing}
use Rattle.drm_gpu.proofs.gpu.Gpu.draw.Goals as goal

pub returns-in-Ok-clause-holding : goal.returns-in-Ok-clause-holding
returns-in-Ok-clause-holding g c =
    let gpu = c.args.self.now in
    let a = c.in-Ok.acquire in
    let v = sees c.pass.inside.seat in
    let seen = c.in-Ok.ensures.view in
    let k : Knows gpu.spec (last_of v) v = subst (λ (z : GpuState). Knows z.spec (last_of v) v) (ap (λ (o : PassState). o.gpu) c.pass.view_is ∙ c.requires) c.pass.invariant.seated.knows in (
      holds_nothing gpu v a (subst (λ z. HoldsOutside z a) (ap (λ (g : GpuState). g.home) c.self.view_is) c.in-Ok.ensures.holds) k c.pass.invariant.idle (ap (λ (z : Seeing). z.pivot) seen) (ap (λ (z : Seeing). z.task) seen) c.in-Ok.ensures.fresh.1,
      c.in-Ok.ensures.fresh.0,
      c.in-Ok.ensures.fresh.1,
    )

pub returns-in-Ok-clause-pass : goal.returns-in-Ok-clause-pass
returns-in-Ok-clause-pass g c =
    let v = sees c.pass.inside.seat in
    let t = c.in-Ok.acquire.ticket in
    ap (λ z. pass_of c.args.self.now.home z) c.in-Ok.ensures.view
    ∙ ap (draws t) (ap (λ h. pass_of h v) (sym (ap (λ (g : GpuState). g.home) (ap (λ (o : PassState). o.gpu) c.pass.view_is ∙ c.requires))) ∙ c.pass.view_is)

pub returns-in-Ok-clause-ticket : goal.returns-in-Ok-clause-ticket
returns-in-Ok-clause-ticket g c =
    let below = c.in-Ok.ensures.next.2 in
    subst (λ (o : PassState). IsNewTicket o c.in-Ok.acquire.ticket) c.pass.view_is (below.0, below.1, below.2)

pub invariant_of-result-in-Err-TicketsOut : goal.invariant_of-result-in-Err-TicketsOut
invariant_of-result-in-Err-TicketsOut g c =
    let idle = rw c.in-Err-TicketsOut.field-0-is at c.in-Err-TicketsOut.ensures.idle in
    let back = rw c.in-Err-TicketsOut.field-0-is at c.in-Err-TicketsOut.ensures.refused in
    let v = sees c.pass.inside.seat in
    let t = c.in-Err-TicketsOut.seat in
    let k = c.pass.invariant in
    idle_pass _ (last_of v).state.spec t (idle k.idle) (knows_same (last_of v).state.spec v (sees t) k.seated.knows (ap (λ m. m.0.pivot) back.2))

pub returns-in-Ok-clause-tickets_left : goal.returns-in-Ok-clause-tickets_left
returns-in-Ok-clause-tickets_left g c = subst (λ (o : PassState). o.tickets_out ≡ false) c.pass.view_is c.in-Ok.ensures.next.3
