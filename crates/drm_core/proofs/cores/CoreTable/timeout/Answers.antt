use Rattle.std.proofs.Common.{◌≡◌, ◌∙◌, Some, None, ap, subst, sym, refl}
use Rattle.drm_state.specs.Errors.{refusal_of_timeout}
use Rattle.drm_state.specs.Events.{IsKept}
use Rattle.drm_core.specs.declared.event.Event.TheVariants as event
use Rattle.drm_sched.specs.Marks.{MarkedDevice, ring_out}
use Rattle.drm_core.specs.Cores.{core_state, IsCore}
use Rattle.drm_core.specs.Outcomes.{with_device}
use Rattle.drm_core.proofs.CoreFacts.{device_changed, out_is, no_ring_out}
use Rattle.drm_core.proofs.DeviceFacts.{Left}
use Rattle.drm_core.proofs.Locks.{reply_is}
use Rattle.drm_core.proofs.cores.CoreTable.timeout.Goals as goal

pub returns-in-Ok-clause-reply : goal.returns-in-Ok-clause-reply
returns-in-Ok-clause-reply c =
    let t = c.args.self.now in
    reply_is (core_state t) (event.Timeout c.args.ring c.args.now) (out_is (ring_out t.device c.args.ring) _ None (no_ring_out t.device c.args.ring c.requires.core.inside) c.in-Ok.ensures.expired.0) refl
    ∙ (ap (with_device (core_state t)) c.in-Ok.ensures.expired.1 ∙ ap (λ a. (a, core_state (record t { device = c.timeout.new.self }))) (sym c.timed_out.ensures))

pub returns-in-Ok-clause-core : goal.returns-in-Ok-clause-core
returns-in-Ok-clause-core c =
    let d = c.args.self.now.device in
    device_changed c.device_laws.ensures c.args.self.now c.timeout.new.self c.requires.core
    (subst (λ (q : Left). IsKept d.state q.1) c.in-Ok.ensures.expired.1 ((c.device_laws.ensures.steady.events d.state c.requires.core.steady.device).timeouts c.args.ring c.args.now c.requires.there)) c.timeout.ensures.marks

pub returns-in-Err-clause-reply : goal.returns-in-Err-clause-reply
returns-in-Err-clause-reply c =
    let d = c.args.self.now.device in
    let never : None ≡ Some (refusal_of_timeout c.in-Err.error) =
    out_is (ring_out d c.args.ring) None (Some (refusal_of_timeout c.in-Err.error)) (no_ring_out d c.args.ring c.requires.core.inside) c.in-Err.ensures.refused.0 in
    absurd (cc (never))

pub returns-in-Err-clause-core : goal.returns-in-Err-clause-core
returns-in-Err-clause-core c = subst (λ (d : MarkedDevice). IsCore (record c.args.self.now { device = d })) (sym c.in-Err.ensures.refused.1) c.requires.core
