-- What the device answers to an event the core replies, and it stays a core.
use Rattle.std.proofs.Common.{◌≡◌, None, Option, Result, Ok, Err, sym, ap, subst, ◌∙◌}
use Rattle.drm_job.specs.declared.Draft.{Draft}
use Rattle.drm_state.specs.declared.answer.Answer.{Answer}
use Rattle.drm_state.specs.declared.answer.Answer.TheVariants as answer
use Rattle.drm_state.specs.declared.answer.Refusal.{Refusal}
use Rattle.drm_state.specs.Events.{IsKept}
use Rattle.drm_state.specs.State.{DeviceState}
use Rattle.drm_sched.specs.Calls.{IsAnswered}
use Rattle.drm_sched.specs.Marks.{MarkedDevice}
use Rattle.drm_core.specs.declared.cores.CoreTable.{CoreTable}
use Rattle.drm_core.specs.declared.event.Event.{Event}
use Rattle.drm_core.specs.Cores.{core_state, IsCore}
use Rattle.drm_core.specs.Laws.{DeviceLaws}
use Rattle.drm_core.specs.Outcomes.{with_device, outcome_of_event}
use Rattle.drm_core.specs.Refusals.{early_refusal, late_refusal}
use Rattle.drm_core.specs.Step.{reply}
use Rattle.drm_core.proofs.CoreFacts.{device_changed}
use Rattle.drm_core.proofs.Locks.{reply_is}
use Rattle.drm_core.proofs.Submitting.{reply_early}

-- the core with the device that a call of it left
abbrev pub with_left : CoreTable → MarkedDevice → CoreTable
with_left t u = record t { device = u }

-- an event that the device does not refuse, and one that it refuses
pub reply_done : {X E : Type 0} {refusal : Option Refusal} {outcome : Answer × DeviceState} {why : E → Refusal} {told : X → Answer} (t : CoreTable) (u : MarkedDevice) (event : Event Draft) (x : X)
    → IsAnswered refusal outcome why told (Ok x) t.device u
    → early_refusal (core_state t) event ≡ refusal → late_refusal (core_state t) event ≡ None → outcome_of_event (core_state t) event ≡ with_device (core_state t) outcome
    → reply (core_state t) event ≡ (told x, core_state (with_left t u))
reply_done t u event x is early late leads = reply_is (core_state t) event (early ∙ is.done.0) late ∙ (leads ∙ ap (with_device (core_state t)) is.done.1)

pub reply_refused : {X E : Type 0} {refusal : Option Refusal} {outcome : Answer × DeviceState} {why : E → Refusal} {told : X → Answer} (t : CoreTable) (u : MarkedDevice) (event : Event Draft) (r : E)
    → IsAnswered refusal outcome why told (Err r) t.device u → early_refusal (core_state t) event ≡ refusal → reply (core_state t) event ≡ (answer.Refused (why r), core_state (with_left t u))
reply_refused {why = why} t u event r is early =
    reply_early (core_state t) event (why r) (early ∙ is.refused.0) ∙ ap (λ (d : MarkedDevice). (answer.Refused (why r), core_state (with_left t d))) (sym is.refused.1)

-- where the outcome keeps the device steady, the core stays one
pub core_after : {X E : Type 0} {refusal : Option Refusal} {outcome : Answer × DeviceState} {why : E → Refusal} {told : X → Answer} (laws : DeviceLaws) (t : CoreTable) (u : MarkedDevice) (r : Result X E) → IsCore t
    → IsAnswered refusal outcome why told r t.device u → (refusal ≡ None → IsKept t.device.state outcome.1) → IsCore (with_left t u)
core_after laws t u (Ok x) core is kept = device_changed laws t u core (subst (λ (q : Answer × DeviceState). IsKept t.device.state q.1) is.done.1 (kept is.done.0)) is.marks
core_after laws t u (Err e) core is kept = subst (λ (d : MarkedDevice). IsCore (with_left t d)) (sym is.refused.1) core
