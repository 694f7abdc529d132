-- What reasons promise: each job has one, and each call of a device takes just the jobs whose reason says so.
use Rattle.std.specs.Prelude.{◌≡◌, ℕ, ◌<◌, ◌↔◌, Bool, IsTrue, IsFalse, length, Some, None, Contains, slice_get}
use Rattle.drm_types.specs.Limits.{spec_fault}
use Rattle.drm_types.specs.declared.access.Access.{Access}
use Rattle.drm_types.specs.declared.outcome.Outcome.{Outcome}
use Rattle.drm_job.specs.Conflicts.{conflicts, must_wait}
use Rattle.drm_job.specs.declared.Draft.{Draft}
use Rattle.drm_state.specs.declared.answer.Answer.TheVariants as answer
use Rattle.drm_state.specs.declared.journal.JobRecord.{JobRecord}
use Rattle.drm_state.specs.State.{DeviceState}
use Rattle.drm_state.specs.Refusals.{pick_refusal, step_refusal, finish_refusal, reap_refusal}
use Rattle.drm_state.specs.Outcomes.{pick_outcome, step_outcome, finish_outcome, reap_outcome}
use Rattle.drm_state.specs.Steady.{IsSteady}
use Rattle.drm_reason.specs.declared.reason.How.TheVariants as how
use Rattle.drm_reason.specs.declared.reason.Reason.{Reason}
use Rattle.drm_reason.specs.declared.reason.Reason.TheVariants as reason
use Rattle.drm_reason.specs.Reasons.{how_of, reason_of}
use Rattle.drm_reason.specs.Standing.{HasReason}

-- each job of a device has one reason: that which is told, and it has no other. What it names is there and comes before
-- the job
abbrev pub EachJobHasOneReason : Type 0
EachJobHasOneReason =
    (device : DeviceState) (number : ℕ) (told : Reason) → IsSteady device → spec_fault device.spec ≡ None
    → (reason_of device number ≡ told) ↔ HasReason device number told

-- a buffer is told where both jobs declare it so and the later waits for the earlier there, the name alone where they
-- do not conflict
pub record HowIsTold (earlier later : Draft) : Type 0 where
  pub buffer : (place : ℕ) (a b : Access) → how_of earlier later ≡ how.Buffer place a b
      → Contains earlier.declared (place, a) × Contains later.declared (place, b) × IsTrue (must_wait a b)
  pub named : (how_of earlier later ≡ how.Named) ↔ IsFalse (conflicts earlier later)

abbrev pub EachHowIsTold : Type 0
EachHowIsTold = (earlier later : Draft) → HowIsTold earlier later

-- a pick of the ring takes the job
abbrev pub TakesJob : DeviceState → ℕ → ℕ → ℕ → Type 0
TakesJob device ring now number =
    (pick_refusal device ring ≡ None) × ((skipped : Bool) × ((pick_outcome device ring now).0 ≡ answer.Picked number skipped))

-- a step of the ring runs this packet of the job
abbrev pub RunsPacket : DeviceState → ℕ → ℕ → ℕ → Type 0
RunsPacket device ring number packet = (step_refusal device ring ≡ None) × ((step_outcome device ring).0 ≡ answer.Ran number packet)

-- a step of the ring finds that the job stalls
abbrev pub FindsStalled : DeviceState → ℕ → ℕ → Type 0
FindsStalled device ring number = (step_refusal device ring ≡ None) × ((step_outcome device ring).0 ≡ answer.Stalled number)

-- a finish of the ring ends the job
abbrev pub EndsJob : DeviceState → ℕ → ℕ → ℕ → Type 0
EndsJob device ring now number =
    (finish_refusal device ring ≡ None)
    × ((outcome : Outcome) × ((finish_outcome device ring now).0 ≡ answer.Finished number outcome))

-- a reap of the entity ends the job
abbrev pub ReapsJob : DeviceState → ℕ → ℕ → Type 0
ReapsJob device entity number = (reap_refusal device entity ≡ None) × ((reap_outcome device entity).0 ≡ answer.Reaped number)

-- the job is of the entity
abbrev pub IsOf : DeviceState → ℕ → ℕ → Type 0
IsOf device entity number = (job : JobRecord) × (slice_get device.journal number ≡ Some job) × (job.job.entity ≡ entity)

-- each call takes a job exactly where its reason is the one that says so
pub record CallsGoByReasons (device : DeviceState) : Type 0 where
  pub picks : (ring now number : ℕ) → TakesJob device ring now number ↔ (reason_of device number ≡ reason.Next ring)
  pub runs : (ring number packet : ℕ) → ring < length device.spec.rings
      → RunsPacket device ring number packet ↔ (reason_of device number ≡ reason.Runs ring packet)
  pub stalls : (ring number : ℕ) → ring < length device.spec.rings
      → FindsStalled device ring number ↔ ((packet : ℕ) × (reason_of device number ≡ reason.Stalls ring packet))
  pub finishes : (ring now number : ℕ) → ring < length device.spec.rings
      → EndsJob device ring now number ↔ (reason_of device number ≡ reason.Complete ring)
  pub reaps : (entity number : ℕ) → ReapsJob device entity number ↔ ((reason_of device number ≡ reason.Stopped None) × IsOf device entity number)

abbrev pub AllCallsGoByReasons : Type 0
AllCallsGoByReasons = (device : DeviceState) → IsSteady device → spec_fault device.spec ≡ None → CallsGoByReasons device
