use Rattle.std.proofs.Common.{◌∙◌, ap, sym, refl}
use Rattle.drm_state.specs.declared.answer.Answer.TheVariants as answer
use Rattle.drm_state.specs.Refusals.{step_refusal}
use Rattle.drm_sched.specs.Begun.{out_or}
use Rattle.drm_core.specs.declared.event.Event.TheVariants as event
use Rattle.drm_core.specs.Cores.{core_state}
use Rattle.drm_core.proofs.Answered.{core_after, reply_done, reply_refused, with_left}
use Rattle.drm_core.proofs.CoreFacts.{nothing_in_way}
use Rattle.drm_core.proofs.cores.CoreTable.step.Goals as goal

pub returns-in-Ok-clause-reply : goal.returns-in-Ok-clause-reply
returns-in-Ok-clause-reply c =
    let t = c.args.self.now in
    let free = ap (λ b. out_or b (step_refusal t.device.state c.args.ring)) (nothing_in_way t.device c.args.ring c.requires.core.inside) in
    reply_done t c.step.new.self (event.Step c.args.ring) c.in-Ok.answer c.in-Ok.ensures.call (sym free) refl refl
    ∙ ap (λ a. (a, core_state (with_left t c.step.new.self))) (sym c.stepped.ensures)

pub returns-in-Ok-clause-core : goal.returns-in-Ok-clause-core
returns-in-Ok-clause-core c =
    let d = c.args.self.now.device.state in
    core_after c.device_laws.ensures c.args.self.now c.step.new.self c.step.result c.requires.core c.step.ensures.call
    (λ may. (c.device_laws.ensures.steady.events d c.requires.core.steady.device).steps c.args.ring c.requires.there)

pub returns-in-Err-clause-reply : goal.returns-in-Err-clause-reply
returns-in-Err-clause-reply c =
    let t = c.args.self.now in
    let free = ap (λ b. out_or b (step_refusal t.device.state c.args.ring)) (nothing_in_way t.device c.args.ring c.requires.core.inside) in
    reply_refused t c.step.new.self (event.Step c.args.ring) c.in-Err.error c.in-Err.ensures.call (sym free)
    ∙ ap (λ r. (answer.Refused r, core_state (with_left t c.step.new.self))) (sym c.from.ensures)

pub returns-in-Err-clause-core : goal.returns-in-Err-clause-core
returns-in-Err-clause-core c =
    let d = c.args.self.now.device.state in
    core_after c.device_laws.ensures c.args.self.now c.step.new.self c.step.result c.requires.core c.step.ensures.call
    (λ may. (c.device_laws.ensures.steady.events d c.requires.core.steady.device).steps c.args.ring c.requires.there)
