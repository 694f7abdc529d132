-- Why an event is refused: of the causes, in their order, the first that applies.
use Rattle.std.specs.Prelude.{ℕ, ◌^◌, Bool, true, false, not, ◌==◌, is_some, is_none, [], ◌∷◌, Option, None, find, option_map, slice_get}
use Rattle.std.specs.Option.{option_map_or}
use Rattle.drm_types.specs.Firsts.{when, first_of}
use Rattle.drm_job.specs.declared.Draft.{Draft}
use Rattle.drm_job.specs.Fault.{job_fault, buffers_of}
use Rattle.drm_core.specs.declared.event.Event.{Event}
use Rattle.drm_core.specs.declared.event.Event.TheVariants as event
use Rattle.drm_state.specs.declared.answer.Refusal.{Refusal}
use Rattle.drm_state.specs.declared.answer.Refusal.TheVariants.{Faulty, CtxBusy, CtxIdle, NotHeld, NotAllHeld, NotPlanned, Sealed, StillHolds, Held, TicketsOut, Already}
use Rattle.drm_core.specs.State.{CoreState}
use Rattle.drm_core.specs.Context.{context_of, is_held, holds, holds_all, least_held}
use Rattle.drm_state.specs.Refusals.{arm_refusal, pick_refusal, step_refusal, finish_refusal, cancel_refusal, reap_refusal, read_refusal, status_refusal}

abbrev pub idle_refusal : CoreState → ℕ → Option Refusal
idle_refusal state ctx = when (is_none (context_of state ctx)) CtxIdle

abbrev pub sealed_refusal : CoreState → ℕ → Option Refusal
sealed_refusal state ctx = when (option_map_or (λ c. c.is_sealed) (context_of state ctx) false) Sealed

abbrev pub not_held_refusal : CoreState → ℕ → ℕ → Option Refusal
not_held_refusal state ctx buffer = when (not (holds state ctx buffer)) (NotHeld buffer)

-- what the context has planned
abbrev pub plan_of : CoreState → ℕ → Option Draft
plan_of state ctx = option_map_or (λ c. c.plan) (context_of state ctx) None

-- the refusal that comes before the event takes memory, if it takes any
abbrev pub early_refusal : CoreState → Event Draft → Option Refusal
early_refusal s (event.Submit draft) =
    first_of (option_map Faulty (job_fault s.device.spec draft) ∷ option_map Held (find (is_held s) (buffers_of draft)) ∷ [])
early_refusal s (event.Begin ctx) =
    first_of (when (is_some (context_of s ctx)) CtxBusy ∷ when (s.next_ticket == 2 ^ 63) TicketsOut ∷ [])
early_refusal s (event.Try ctx buffer) =
    first_of (idle_refusal s ctx ∷ sealed_refusal s ctx ∷ when (holds s ctx buffer) Already ∷ [])
early_refusal s (event.Done ctx) = first_of (idle_refusal s ctx ∷ sealed_refusal s ctx ∷ [])
early_refusal s (event.Drop ctx buffer) = first_of (idle_refusal s ctx ∷ not_held_refusal s ctx buffer ∷ [])
early_refusal s (event.End ctx) = first_of (idle_refusal s ctx ∷ option_map StillHolds (least_held s ctx) ∷ [])
early_refusal s (event.Plan ctx draft) =
    first_of (
    idle_refusal s ctx ∷ option_map Faulty (job_fault s.device.spec draft) ∷ when (not (holds_all s ctx draft)) NotAllHeld ∷ []
    )
early_refusal s (event.Arm ctx) =
    first_of (
    idle_refusal s ctx ∷ when (is_none (plan_of s ctx)) NotPlanned ∷ option_map_or (arm_refusal s.device) (plan_of s ctx) None ∷ []
    )
early_refusal s (event.Pick ring now) = pick_refusal s.device ring
early_refusal s (event.Step ring) = step_refusal s.device ring
early_refusal s (event.Finish ring now) = finish_refusal s.device ring
early_refusal s (event.Timeout ring now) = None
early_refusal s (event.Cancel entity) = cancel_refusal s.device entity
early_refusal s (event.Reap entity) = reap_refusal s.device entity
early_refusal s (event.Read ctx buffer) =
    first_of (
    idle_refusal s ctx ∷ not_held_refusal s ctx buffer ∷ read_refusal s.device (slice_get s.reservations buffer) ∷ []
    )
early_refusal s (event.Status fence) = status_refusal s.device fence
early_refusal s (event.Dump buffer) = None

-- the refusal that comes after the event has taken memory
abbrev pub late_refusal : CoreState → Event Draft → Option Refusal
late_refusal s (event.Submit draft) = arm_refusal s.device draft
late_refusal s _ = None

-- whether the event takes memory
abbrev pub takes_memory : Event Draft → Bool
takes_memory (event.Submit draft) = true
takes_memory (event.Plan ctx draft) = true
takes_memory (event.Read ctx buffer) = true
takes_memory (event.Dump buffer) = true
takes_memory _ = false
