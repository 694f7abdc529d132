-- The errors of a device's calls as refusals of events.
use Rattle.drm_state.specs.declared.answer.Refusal.{Refusal}
use Rattle.drm_state.specs.declared.answer.Refusal.TheVariants as refusal
use Rattle.drm_state.specs.declared.errors.ArmError.{ArmError}
use Rattle.drm_state.specs.declared.errors.ArmError.TheVariants as arm
use Rattle.drm_state.specs.declared.errors.CancelError.{CancelError}
use Rattle.drm_state.specs.declared.errors.CancelError.TheVariants as cancel
use Rattle.drm_state.specs.declared.errors.FinishError.{FinishError}
use Rattle.drm_state.specs.declared.errors.FinishError.TheVariants as finish
use Rattle.drm_state.specs.declared.errors.PickError.{PickError}
use Rattle.drm_state.specs.declared.errors.PickError.TheVariants as pick
use Rattle.drm_state.specs.declared.errors.ReadError.{ReadError}
use Rattle.drm_state.specs.declared.errors.ReadError.TheVariants as read
use Rattle.drm_state.specs.declared.errors.ReapError.{ReapError}
use Rattle.drm_state.specs.declared.errors.ReapError.TheVariants as reap
use Rattle.drm_state.specs.declared.errors.StepError.{StepError}
use Rattle.drm_state.specs.declared.errors.StepError.TheVariants as step
use Rattle.drm_state.specs.declared.errors.TimeoutError.{TimeoutError}
use Rattle.drm_state.specs.declared.errors.TimeoutError.TheVariants as timeout

abbrev pub refusal_of_pick : PickError → Refusal
refusal_of_pick pick.Idle = refusal.Idle
refusal_of_pick (pick.NoCredit need free) = refusal.NoCredit need free

abbrev pub refusal_of_step : StepError → Refusal
refusal_of_step step.PacketOut = refusal.PacketOut
refusal_of_step step.Idle = refusal.Idle

abbrev pub refusal_of_finish : FinishError → Refusal
refusal_of_finish finish.PacketOut = refusal.PacketOut
refusal_of_finish finish.Idle = refusal.Idle
refusal_of_finish finish.NotComplete = refusal.NotComplete

abbrev pub refusal_of_timeout : TimeoutError → Refusal
refusal_of_timeout timeout.PacketOut = refusal.PacketOut

abbrev pub refusal_of_cancel : CancelError → Refusal
refusal_of_cancel cancel.AlreadyStopped = refusal.AlreadyStopped

abbrev pub refusal_of_reap : ReapError → Refusal
refusal_of_reap reap.Nothing = refusal.Nothing
refusal_of_reap reap.Waits = refusal.Waits

abbrev pub refusal_of_arm : ArmError → Refusal
refusal_of_arm arm.Stopped = refusal.Stopped
refusal_of_arm arm.Full = refusal.Full
refusal_of_arm (arm.NoFence fence) = refusal.NoFence fence

abbrev pub refusal_of_read : ReadError → Refusal
refusal_of_read read.PacketOut = refusal.PacketOut
refusal_of_read (read.Busy fence) = refusal.Busy fence
