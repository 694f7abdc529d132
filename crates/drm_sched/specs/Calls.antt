-- What each call of a device answers and leaves, where it finds the device d and leaves e.
use Rattle.std.specs.Prelude.{◌≡◌, ℕ, ℤ, length, Option, Some, None, Result, Ok, Err, IfOk, IfErr, option_map, slice_get}
use Rattle.drm_fence.specs.declared.timeline.NoFence.{NoFence}
use Rattle.drm_fence.specs.Phases.{status_of}
use Rattle.drm_job.specs.declared.Draft.{Draft}
use Rattle.drm_state.specs.declared.answer.Answer.{Answer}
use Rattle.drm_state.specs.declared.answer.Answer.TheVariants as answer
use Rattle.drm_state.specs.declared.answer.Expired.{Expired}
use Rattle.drm_state.specs.declared.answer.Finished.{Finished}
use Rattle.drm_state.specs.declared.answer.Picked.{Picked}
use Rattle.drm_state.specs.declared.answer.Refusal.{Refusal}
use Rattle.drm_state.specs.declared.answer.Stepped.{Stepped}
use Rattle.drm_state.specs.declared.errors.ArmError.{ArmError}
use Rattle.drm_state.specs.declared.errors.CancelError.{CancelError}
use Rattle.drm_state.specs.declared.errors.FinishError.{FinishError}
use Rattle.drm_state.specs.declared.errors.PickError.{PickError}
use Rattle.drm_state.specs.declared.errors.ReapError.{ReapError}
use Rattle.drm_state.specs.declared.errors.StepError.{StepError}
use Rattle.drm_state.specs.declared.errors.TimeoutError.{TimeoutError}
use Rattle.drm_state.specs.Answers.{picked, stepped, finished, timed_out}
use Rattle.drm_state.specs.Arming.{armed_device}
use Rattle.drm_state.specs.Errors.{refusal_of_arm, refusal_of_cancel, refusal_of_finish, refusal_of_pick, refusal_of_reap, refusal_of_step, refusal_of_timeout}
use Rattle.drm_state.specs.Grows.{Grows}
use Rattle.drm_state.specs.Lawful.{IsLawfulDevice}
use Rattle.drm_state.specs.Outcomes.{pick_outcome, step_outcome, finish_outcome, timeout_outcome, cancelled_device, reap_outcome}
use Rattle.drm_state.specs.Refusals.{arm_refusal, pick_refusal, step_refusal, finish_refusal, cancel_refusal, reap_refusal}
use Rattle.drm_state.specs.State.{DeviceState}
use Rattle.drm_sched.specs.declared.outside.Begun.{Begun}
use Rattle.drm_sched.specs.Begun.{HasBegun, out_or}
use Rattle.drm_sched.specs.Marks.{MarkedDevice, is_step_blocked, ring_out}

-- the call was not refused and led to its outcome, or it was refused and changed nothing. What was out stays out
pub record IsAnswered {X E : Type 0} (refusal : Option Refusal) (outcome : Answer × DeviceState)
    (why : E → Refusal) (told : X → Answer) (result : Result X E) (d e : MarkedDevice) : Type 0 where
  pub done : IfOk result (λ x. (refusal ≡ None) × (outcome ≡ (told x, e.state)))
  pub refused : IfErr result (λ r. (refusal ≡ Some (why r)) × (e ≡ d))
  pub marks : e.marks ≡ d.marks

abbrev pub PickIs : ℕ → ℕ → Result Picked PickError → MarkedDevice → MarkedDevice → Type 0
PickIs ring now result d e =
    IsAnswered (pick_refusal d.state ring) (pick_outcome d.state ring now)
    refusal_of_pick picked result d e

-- a packet in its way keeps a ring from a step, and one of its own from a finish and a timeout
abbrev pub StepIs : ℕ → Result Stepped StepError → MarkedDevice → MarkedDevice → Type 0
StepIs ring result d e =
    IsAnswered (out_or (is_step_blocked d ring) (step_refusal d.state ring)) (step_outcome d.state ring)
    refusal_of_step stepped result d e

abbrev pub FinishIs : ℕ → ℕ → Result Finished FinishError → MarkedDevice → MarkedDevice → Type 0
FinishIs ring now result d e =
    IsAnswered (out_or (ring_out d ring) (finish_refusal d.state ring)) (finish_outcome d.state ring now)
    refusal_of_finish finished result d e

abbrev pub TimeoutIs : ℕ → ℕ → Result Expired TimeoutError → MarkedDevice → MarkedDevice → Type 0
TimeoutIs ring now result d e =
    IsAnswered (out_or (ring_out d ring) None) (timeout_outcome d.state ring now)
    refusal_of_timeout timed_out result d e

abbrev pub CancelIs : ℕ → Result (Unit {0}) CancelError → MarkedDevice → MarkedDevice → Type 0
CancelIs entity result d e =
    IsAnswered (cancel_refusal d.state entity) (answer.Ok, cancelled_device d.state entity)
    refusal_of_cancel (λ u. answer.Ok) result d e

abbrev pub ReapIs : ℕ → Result ℕ ReapError → MarkedDevice → MarkedDevice → Type 0
ReapIs entity result d e =
    IsAnswered (reap_refusal d.state entity) (reap_outcome d.state entity)
    refusal_of_reap answer.Reaped result d e

-- the ring's next packet went out or waits, or the step is refused and changes nothing
abbrev pub BeginIs : ℕ → Result Begun StepError → MarkedDevice → MarkedDevice → Type 0
BeginIs ring (Ok begun) d e =
    (out_or (is_step_blocked d ring) (step_refusal d.state ring) ≡ None) × HasBegun d ring begun e
BeginIs ring (Err r) d e =
    (out_or (is_step_blocked d ring) (step_refusal d.state ring) ≡ Some (refusal_of_step r)) × (e ≡ d)

-- the job is armed, under this number
pub record ArmIs (job : Draft) (fence : ℕ) (d e : MarkedDevice) : Type 0 where
  pub taken : arm_refusal d.state job ≡ None
  pub number : fence ≡ length d.state.journal
  pub armed : e.state ≡ armed_device d.state job
  pub marks : e.marks ≡ d.marks

-- the device does not take the job, and is as it was
abbrev pub ArmRefused : Draft → ArmError → MarkedDevice → MarkedDevice → Type 0
ArmRefused job r d e = (arm_refusal d.state job ≡ Some (refusal_of_arm r)) × (e ≡ d)

-- no job of this number is armed
abbrev pub LacksFence : ℕ → MarkedDevice → NoFence → Type 0
LacksFence fence d e = (e.fence ≡ fence) × (slice_get d.state.journal fence ≡ None)

-- the status of the fence of this number, where a job of this number is armed
abbrev pub StatusIs : ℕ → Result ℤ NoFence → MarkedDevice → Type 0
StatusIs fence (Ok s) d = option_map (λ r. status_of r.phase) (slice_get d.state.journal fence) ≡ Some s
StatusIs fence (Err e) d = LacksFence fence d e

-- what each call that changes a device keeps: what it leaves is lawful, and what it found has grown to that
pub record StaysLawful (d e : DeviceState) : Type 0 where
  pub lawful : IsLawfulDevice e
  pub grows : Grows d e
