use Rattle.std.proofs.Common.{ap, refl, rules, sym}
use Rattle.drm_core.specs.declared.event.Event.TheVariants as event
use Rattle.drm_core.proofs.event.Event.map_job.Goals as goal

pub returns-in-Submit : goal.returns-in-Submit
returns-in-Submit g c = rw c.in-Submit.is (c.give.result, (_, c.give.ensures, refl), λ give is. ap event.Submit (sym is))

pub returns-in-Plan : goal.returns-in-Plan
returns-in-Plan g c =
    rw c.in-Plan.is (c.give-in-Plan.result, (_, c.give-in-Plan.ensures, refl), λ give is. ap (event.Plan c.in-Plan.ctx) (sym is))

pub returns-in-Step : goal.returns-in-Step
returns-in-Step g c = search rules
