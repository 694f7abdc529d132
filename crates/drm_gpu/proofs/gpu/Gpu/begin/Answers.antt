use Rattle.std.proofs.Common.{◌≡◌, ◌∙◌, true, false, refl, ap, sym, subst}
use Rattle.drm_job.specs.Fault.{IsJob}
use Rattle.drm_state.specs.Held.{kept_of}
use Rattle.drm_gpu.specs.Begun.{IsBackFromRead}
use Rattle.drm_gpu.specs.Passes.{PassState}
use Rattle.drm_gpu.specs.Submissions.{IsNewTicket, draws}
use Rattle.drm_gpu.proofs.gpu.Gpu.begin.Goals as goal

pub draw-requires : goal.draw-requires
draw-requires g c = ap (λ (p : PassState). p.gpu) c.take_box.ensures ∙ c.requires.pass

pub invariant_of-result : goal.invariant_of-result
invariant_of-result g c = (c.in-Ok-draw.ensures.holding.0, c.in-Ok-draw.ensures.holding.1, subst (IsJob c.args.self.now.spec) (sym c.of-plan.ensures) c.requires.job)

pub returns-in-Ok-draw-clause-begun : goal.returns-in-Ok-draw-clause-begun
returns-in-Ok-draw-clause-begun g c =
    (c.in-Ok-draw.ensures.pass ∙ ap (draws c.in-Ok-draw.acquire.ticket) c.take_box.ensures, c.of-plan.ensures, ap (λ hs. kept_of hs) c.in-Ok-draw.ensures.holding.2)

pub returns-in-Ok-draw-clause-ticket : goal.returns-in-Ok-draw-clause-ticket
returns-in-Ok-draw-clause-ticket g c = subst (λ (p : PassState). IsNewTicket p c.in-Ok-draw.acquire.ticket) c.take_box.ensures c.in-Ok-draw.ensures.ticket

pub returns-in-Ok-draw-clause-tickets_left : goal.returns-in-Ok-draw-clause-tickets_left
returns-in-Ok-draw-clause-tickets_left g c = subst (λ (p : PassState). p.tickets_out ≡ false) c.take_box.ensures c.in-Ok-draw.ensures.tickets_left

pub returns-in-Err-Memory-clause-refused : goal.returns-in-Err-Memory-clause-refused
returns-in-Err-Memory-clause-refused g c =
    let back = subst (λ e. IsBackFromRead c.take_box.new.self e) c.in-Err-Memory.field-0-is c.in-Err-Memory.ensures.refused in (back ∙ c.take_box.ensures, refl)

pub returns-clause-refused : goal.returns-clause-refused
returns-clause-refused g c =
    let back = subst (λ e. IsBackFromRead c.take_box.new.self e) c.in-Err-TicketsOut.field-0-is c.in-Err-TicketsOut.ensures.refused in
    (back ∙ ap (λ (p : PassState). record p { tickets_out = true }) c.take_box.ensures, refl)
