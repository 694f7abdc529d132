use Rattle.std.proofs.Common.{◌∙◌, ap}
use Rattle.drm_gpu.specs.Submissions.{claims_one}
use Rattle.drm_gpu.proofs.gpu.Gpu.begin_read.Goals as goal

pub invariant_of-result : goal.invariant_of-result
invariant_of-result g c = (c.lock_first.ensures.holding, c.lock_first.ensures.sealed ∙ c.in-Ok.ensures.holding.1, c.requires.buffer, c.lock_first.ensures.held)

pub returns-clause-ticket : goal.returns-clause-ticket
returns-clause-ticket g c =
    let a = c.in-Ok.drawn.0 in
    let first = c.lock_first.ensures in
    (a.ticket, first.waited, c.in-Ok.ensures.ticket, first.had ∙ ap (claims_one a.ticket c.args.buffer first.waited) c.in-Ok.ensures.pass)
