use Rattle.std.proofs.Common.{◌∙◌, true, ap, subst}
use Rattle.drm_gpu.specs.Begun.{IsBack}
use Rattle.drm_gpu.specs.Passes.{PassState}
use Rattle.drm_gpu.specs.Submissions.{draws}
use Rattle.drm_workers.proofs.Arming.{draw_arms, same_pass, told_arms}
use Rattle.drm_workers.proofs.submit.begin.Goals as goal

pub returns-in-Err-TicketsOut-clause-back : goal.returns-in-Err-TicketsOut-clause-back
returns-in-Err-TicketsOut-clause-back g c =
    let back = subst (λ e. IsBack c.loop.pass c.loop.job e) c.in-Err-TicketsOut.field-0-is c.in-Err-TicketsOut.ensures.refused in
    told_arms c.args.pass c.in-Err-TicketsOut.same (back.0 ∙ ap (λ (p : PassState). record p { tickets_out = true }) c.loop.invariant.0)

pub returns-then-not-make-clause-back : goal.returns-then-not-make-clause-back
returns-then-not-make-clause-back g c =
    let back = subst (λ e. IsBack c.loop.pass c.loop.job e) c.in-Err-Memory.field-0-is c.in-Err-Memory.ensures.refused in
    same_pass c.args.pass c.in-Err-Memory.same (back.0 ∙ c.loop.invariant.0)

pub returns-in-Ok-clause-begun : goal.returns-in-Ok-clause-begun
returns-in-Ok-clause-begun g c = (draw_arms c.in-Ok.locking.ticket c.args.pass c.in-Ok.locking.pass (c.in-Ok.ensures.begun.0 ∙ ap (draws c.in-Ok.locking.ticket) c.loop.invariant.0), c.in-Ok.ensures.begun.1 ∙ c.loop.invariant.1)
