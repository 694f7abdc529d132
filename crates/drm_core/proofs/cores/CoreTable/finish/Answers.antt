use Rattle.std.proofs.Common.{◌∙◌, None, ap, sym, refl}
use Rattle.drm_state.specs.declared.answer.Answer.TheVariants as answer
use Rattle.drm_state.specs.Refusals.{finish_refusal}
use Rattle.drm_sched.specs.Begun.{out_or}
use Rattle.drm_sched.specs.Marks.{ring_out}
use Rattle.drm_core.specs.declared.event.Event.TheVariants as event
use Rattle.drm_core.specs.Cores.{core_state}
use Rattle.drm_core.proofs.Answered.{core_after, reply_done, reply_refused, with_left}
use Rattle.drm_core.proofs.CoreFacts.{out_is, no_ring_out}
use Rattle.drm_core.proofs.cores.CoreTable.finish.Goals as goal

pub returns-in-Ok-clause-reply : goal.returns-in-Ok-clause-reply
returns-in-Ok-clause-reply c =
    let t = c.args.self.now in
    let free = ap (λ b. out_or b (finish_refusal t.device.state c.args.ring)) (no_ring_out t.device c.args.ring c.requires.core.inside) in
    reply_done t c.finish.new.self (event.Finish c.args.ring c.args.now) c.in-Ok.answer c.in-Ok.ensures.call (sym free) refl refl
    ∙ ap (λ a. (a, core_state (with_left t c.finish.new.self))) (sym c.finished.ensures)

pub returns-in-Ok-clause-core : goal.returns-in-Ok-clause-core
returns-in-Ok-clause-core c =
    let d = c.args.self.now.device in
    core_after c.device_laws.ensures c.args.self.now c.finish.new.self c.finish.result c.requires.core c.finish.ensures.call
    (λ may. (c.device_laws.ensures.steady.events d.state c.requires.core.steady.device).finishes c.args.ring c.args.now c.requires.there
    (out_is (ring_out d c.args.ring) (finish_refusal d.state c.args.ring) None (no_ring_out d c.args.ring c.requires.core.inside) may))

pub returns-in-Err-clause-reply : goal.returns-in-Err-clause-reply
returns-in-Err-clause-reply c =
    let t = c.args.self.now in
    let free = ap (λ b. out_or b (finish_refusal t.device.state c.args.ring)) (no_ring_out t.device c.args.ring c.requires.core.inside) in
    reply_refused t c.finish.new.self (event.Finish c.args.ring c.args.now) c.in-Err.error c.in-Err.ensures.call (sym free)
    ∙ ap (λ r. (answer.Refused r, core_state (with_left t c.finish.new.self))) (sym c.from.ensures)

pub returns-in-Err-clause-core : goal.returns-in-Err-clause-core
returns-in-Err-clause-core c =
    let d = c.args.self.now.device in
    core_after c.device_laws.ensures c.args.self.now c.finish.new.self c.finish.result c.requires.core c.finish.ensures.call
    (λ may. (c.device_laws.ensures.steady.events d.state c.requires.core.steady.device).finishes c.args.ring c.args.now c.requires.there
    (out_is (ring_out d c.args.ring) (finish_refusal d.state c.args.ring) None (no_ring_out d c.args.ring c.requires.core.inside) may))
