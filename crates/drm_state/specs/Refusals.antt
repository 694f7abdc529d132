-- Why a device refuses: of the causes, in their order, the first that applies.
use Rattle.std.specs.Prelude.{ℕ, Bool, not, ◌||◌, ◌==◌, nat_lt, nat_le, is_none, List, [], ◌∷◌, ◌++◌, length, take, Option, Some, None, find, option_map}
use Rattle.std.specs.Option.{option_map_or}
use Rattle.std.specs.List.{filter}
use Rattle.drm_types.specs.Firsts.{when, first_of}
use Rattle.drm_types.specs.declared.access.Usage.TheVariants as usage
use Rattle.drm_job.specs.declared.Draft.{Draft}
use Rattle.drm_state.specs.declared.answer.Refusal.{Refusal}
use Rattle.drm_state.specs.declared.answer.Refusal.TheVariants.{NoFence, Stopped, Full, Idle, NoCredit, NotComplete, AlreadyStopped, Waits, Nothing, Busy}
use Rattle.drm_state.specs.declared.journal.JobRecord.{JobRecord}
use Rattle.drm_state.specs.State.{DeviceState}
use Rattle.drm_resv.specs.Reservation.{Reservation}
use Rattle.drm_state.specs.Journal.{numbered, is_at, is_complete}
use Rattle.drm_state.specs.Order.{dependencies, have_ended}
use Rattle.drm_state.specs.Reservation.{is_signaled}
use Rattle.drm_resv.specs.Active.{least_active}
use Rattle.drm_state.specs.Choice.{queue_of, choice}
use Rattle.drm_types.specs.Firsts.{first}
use Rattle.drm_state.specs.Ring.{credits_of, free_credits, head_of, current_of, is_stopped}

-- an arming: the entity is stopped, the device is full, or a named fence is not armed
abbrev pub arm_refusal : DeviceState → Draft → Option Refusal
arm_refusal device job =
    first_of (
    when (is_stopped device job.entity) Stopped
    ∷ when (nat_le device.spec.max_jobs (length device.journal)) Full
    ∷ option_map NoFence (find (λ f. nat_le (length device.journal) f) job.after)
    ∷ []
    )

-- a pick: there is no choice, or it does not fit
abbrev pub pick_refusal : DeviceState → ℕ → Option Refusal
pick_refusal device ring =
    option_map_or
    (λ f. when
    (nat_lt (free_credits device ring) (credits_of device ring f))
    (NoCredit (credits_of device ring f) (free_credits device ring)))
    (choice device ring)
    (Some Idle)

abbrev pub step_refusal : DeviceState → ℕ → Option Refusal
step_refusal device ring = when (is_none (current_of device ring)) Idle

abbrev pub finish_refusal : DeviceState → ℕ → Option Refusal
finish_refusal device ring =
    option_map_or (λ f. when (not (is_at device.journal f is_complete)) NotComplete) (head_of device ring) (Some Idle)

abbrev pub cancel_refusal : DeviceState → ℕ → Option Refusal
cancel_refusal device entity = when (is_stopped device entity) AlreadyStopped

-- the queued head may not end yet: a job that it comes after, or an earlier one of its entity, has no outcome
abbrev pub must_still_wait : List JobRecord → ℕ → JobRecord → Bool
must_still_wait journal number r =
    not (have_ended (dependencies journal number r.job ++ filter (λ n. n.1.job.entity == r.job.entity) (take number (numbered journal))))

abbrev pub reap_refusal : DeviceState → ℕ → Option Refusal
reap_refusal device entity =
    first_of (
    when (not (is_stopped device entity) || is_none (first (queue_of entity device.journal))) Nothing
    ∷ option_map_or (λ n. when (must_still_wait device.journal n.0 n.1) Waits) (first (queue_of entity device.journal)) None
    ∷ []
    )

-- the least fence among the entries of WRITE and stronger that have no outcome
abbrev pub busy_fence : List JobRecord → Reservation → Option ℕ
busy_fence journal resv = least_active (is_signaled journal) usage.Write resv.entries

abbrev pub read_refusal : DeviceState → Option Reservation → Option Refusal
read_refusal device resv = option_map_or (λ r. option_map Busy (busy_fence device.journal r)) resv None

abbrev pub status_refusal : DeviceState → ℕ → Option Refusal
status_refusal device fence = when (nat_le (length device.journal) fence) (NoFence fence)
