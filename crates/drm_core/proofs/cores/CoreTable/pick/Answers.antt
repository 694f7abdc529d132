use Rattle.std.proofs.Common.{◌∙◌, ap, sym, refl}
use Rattle.drm_state.specs.declared.answer.Answer.TheVariants as answer
use Rattle.drm_core.specs.declared.event.Event.TheVariants as event
use Rattle.drm_core.specs.Cores.{core_state}
use Rattle.drm_core.proofs.Answered.{core_after, reply_done, reply_refused, with_left}
use Rattle.drm_core.proofs.cores.CoreTable.pick.Goals as goal

pub returns-in-Ok-clause-reply : goal.returns-in-Ok-clause-reply
returns-in-Ok-clause-reply c =
    let t = c.args.self.now in
    reply_done t c.pick.new.self (event.Pick c.args.ring c.args.now) c.in-Ok.answer c.in-Ok.ensures.call refl refl refl
    ∙ ap (λ a. (a, core_state (with_left t c.pick.new.self))) (sym c.picked.ensures)

pub returns-in-Ok-clause-core : goal.returns-in-Ok-clause-core
returns-in-Ok-clause-core c =
    let d = c.args.self.now.device.state in
    core_after c.device_laws.ensures c.args.self.now c.pick.new.self c.pick.result c.requires.core c.pick.ensures.call
    (λ may. (c.device_laws.ensures.steady.events d c.requires.core.steady.device).picks c.args.ring c.args.now c.requires.there may)

pub returns-in-Err-clause-reply : goal.returns-in-Err-clause-reply
returns-in-Err-clause-reply c =
    let t = c.args.self.now in
    reply_refused t c.pick.new.self (event.Pick c.args.ring c.args.now) c.in-Err.error c.in-Err.ensures.call refl
    ∙ ap (λ r. (answer.Refused r, core_state (with_left t c.pick.new.self))) (sym c.from.ensures)

pub returns-in-Err-clause-core : goal.returns-in-Err-clause-core
returns-in-Err-clause-core c =
    let d = c.args.self.now.device.state in
    core_after c.device_laws.ensures c.args.self.now c.pick.new.self c.pick.result c.requires.core c.pick.ensures.call
    (λ may. (c.device_laws.ensures.steady.events d c.requires.core.steady.device).picks c.args.ring c.args.now c.requires.there may)
