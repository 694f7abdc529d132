-- What each call of the shared device answers and leaves, where it found this device: what the device's own call does.
use Rattle.std.specs.Prelude.{◌≡◌, ℕ, false, Result, Ok, Err, length}
use Rattle.std.specs.List.{filter}
use Rattle.drm_fence.specs.Phases.{has_ended}
use Rattle.drm_state.specs.declared.answer.Stepped.{Stepped}
use Rattle.drm_state.specs.declared.answer.Stepped.TheVariants.{Ran, Stalled}
use Rattle.drm_state.specs.declared.answer.Finished.{Finished}
use Rattle.drm_state.specs.declared.answer.Expired.{Expired}
use Rattle.drm_state.specs.declared.errors.FinishError.{FinishError}
use Rattle.drm_state.specs.declared.errors.StepError.{StepError}
use Rattle.drm_sched.specs.Begun.{HasReported}
use Rattle.drm_sched.specs.Calls as device
use Rattle.drm_sched.specs.Marks.{MarkedDevice, is_step_blocked, ring_out}
pub use Rattle.drm_sched.specs.Calls.{PickIs, CancelIs, ReapIs}

-- a packet that ran was out of the device that was found, and is back. A step that runs nothing found no packet in
-- its way
abbrev pub StepIs : ℕ → Result Stepped StepError → MarkedDevice → MarkedDevice → Type 0
StepIs ring (Ok (Ran fence packet)) d e = HasReported d ring (fence, packet) e
StepIs ring (Ok (Stalled fence)) d e =
    (is_step_blocked d ring ≡ false) × device.StepIs ring (Ok (Stalled fence)) d e × (e ≡ d)
StepIs ring (Err r) d e = (is_step_blocked d ring ≡ false) × device.StepIs ring (Err r) d e

-- a finish and a timeout found no packet of the ring out
abbrev pub FinishIs : ℕ → ℕ → Result Finished FinishError → MarkedDevice → MarkedDevice → Type 0
FinishIs ring now result d e = (ring_out d ring ≡ false) × device.FinishIs ring now result d e

abbrev pub TimeoutIs : ℕ → ℕ → Expired → MarkedDevice → MarkedDevice → Type 0
TimeoutIs ring now expired d e = (ring_out d ring ≡ false) × device.TimeoutIs ring now (Ok expired) d e

-- the numbers of armed and of ended jobs
abbrev pub CountsAre : ℕ × ℕ → MarkedDevice → MarkedDevice → Type 0
CountsAre n d e = (n.0 ≡ length d.state.journal) × (n.1 ≡ length (filter (λ r. has_ended r.phase) d.state.journal)) × (e ≡ d)

-- a call that leaves the device as it found it
abbrev pub ChangesNothing : MarkedDevice → MarkedDevice → Type 0
ChangesNothing d e = e ≡ d
