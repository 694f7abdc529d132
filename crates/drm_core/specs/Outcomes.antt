-- What an event that is not refused answers, and the state that it leaves.
use Rattle.std.specs.Prelude.{ℕ, ◌+◌, true, false, nat_lt, if◌then◌else◌, length, Some, None, pos, slice_get}
use Rattle.std.specs.Option.{option_map_or}
use Rattle.drm_buffer.specs.Memory.{bytes_of}
use Rattle.drm_job.specs.declared.Draft.{Draft}
use Rattle.drm_state.specs.declared.answer.Answer.{Answer}
use Rattle.drm_state.specs.declared.answer.Answer.TheVariants as answer
use Rattle.drm_core.specs.declared.event.Event.{Event}
use Rattle.drm_core.specs.declared.event.Event.TheVariants as event
use Rattle.drm_state.specs.State.{DeviceState}
use Rattle.drm_core.specs.State.{Context, CoreState}
use Rattle.drm_fence.specs.Phases.{status_of}
use Rattle.drm_state.specs.Arming.{armed_device, armed_reservations}
use Rattle.drm_core.specs.Context.{context_of, holder_of, ticket_of, with_context, with_holder}
use Rattle.drm_core.specs.Refusals.{plan_of}
use Rattle.drm_state.specs.Outcomes.{pick_outcome, step_outcome, finish_outcome, timeout_outcome, cancelled_device, reap_outcome}

-- the core over an answer and a device
abbrev pub with_device : CoreState → Answer × DeviceState → Answer × CoreState
with_device s p = (p.0, record s { device = p.1 })

-- the core after an arming
abbrev pub armed_core : CoreState → Draft → CoreState
armed_core s job = record s {
  device = armed_device s.device job;
  reservations = armed_reservations s.device.journal job s.reservations;
}

-- the state with a begun context changed
abbrev pub context_changed : CoreState → ℕ → (Context → Context) → CoreState
context_changed s ctx change = option_map_or (λ c. with_context s ctx (Some (change c))) (context_of s ctx) s

-- a claim: the reservation is free, or another context holds it
abbrev pub try_outcome : CoreState → ℕ → ℕ → Answer × CoreState
try_outcome s ctx buffer =
    option_map_or
    (λ h. if nat_lt (ticket_of s h) (ticket_of s ctx)
    then (answer.Older (ticket_of s h), s)
    else (answer.Younger (ticket_of s h), s))
    (holder_of s buffer)
    (answer.Held, with_holder s buffer (Some ctx))

-- the answer to an event that is not refused, and the state that it leaves
abbrev pub outcome_of_event : CoreState → Event Draft → Answer × CoreState
outcome_of_event s (event.Submit draft) = (answer.Armed (length s.device.journal), armed_core s draft)
outcome_of_event s (event.Begin ctx) = (
  answer.Ticket s.next_ticket,
  record (with_context s ctx (Some (record { ticket = s.next_ticket; is_sealed = false; plan = None }))) {
    next_ticket = s.next_ticket + 1;
  },
)
outcome_of_event s (event.Try ctx buffer) = try_outcome s ctx buffer
outcome_of_event s (event.Done ctx) = (answer.Ok, context_changed s ctx (λ c. record c { is_sealed = true }))
outcome_of_event s (event.Drop ctx buffer) =
    (answer.Ok, context_changed (with_holder s buffer None) ctx (λ c. record c { plan = None }))
outcome_of_event s (event.End ctx) = (answer.Ok, with_context s ctx None)
outcome_of_event s (event.Plan ctx draft) =
    (answer.Planned, context_changed s ctx (λ c. record c { is_sealed = true; plan = Some draft }))
outcome_of_event s (event.Arm ctx) =
    option_map_or
    (λ job. (answer.Armed (length s.device.journal), context_changed (armed_core s job) ctx (λ c. record c { plan = None })))
    (plan_of s ctx)
    (answer.Ok, s)
outcome_of_event s (event.Pick ring now) = with_device s (pick_outcome s.device ring now)
outcome_of_event s (event.Step ring) = with_device s (step_outcome s.device ring)
outcome_of_event s (event.Finish ring now) = with_device s (finish_outcome s.device ring now)
outcome_of_event s (event.Timeout ring now) = with_device s (timeout_outcome s.device ring now)
outcome_of_event s (event.Cancel entity) = (answer.Ok, record s { device = cancelled_device s.device entity })
outcome_of_event s (event.Reap entity) = with_device s (reap_outcome s.device entity)
outcome_of_event s (event.Read ctx buffer) = (answer.Bytes (bytes_of s.device.memory buffer), s)
outcome_of_event s (event.Status fence) =
    (answer.Status (option_map_or (λ r. status_of r.phase) (slice_get s.device.journal fence) (pos 0)), s)
outcome_of_event s (event.Dump buffer) = (answer.Bytes (bytes_of s.device.memory buffer), s)
