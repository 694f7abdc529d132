-- What the events of a device keep: each leads from a steady device to a steady one.
use Rattle.std.specs.Prelude.{◌≡◌, ℕ, ◌<◌, length, None}
use Rattle.drm_types.specs.declared.spec.DeviceSpec.{DeviceSpec}
use Rattle.drm_job.specs.declared.Draft.{Draft}
use Rattle.drm_job.specs.Fault.{IsJob}
use Rattle.drm_resv.specs.Reservation.{Reservation}
use Rattle.drm_state.specs.State.{DeviceState, opened_device}
use Rattle.drm_state.specs.Arming.{armed_device, armed_reservation}
use Rattle.drm_state.specs.Grows.{Grows}
use Rattle.drm_state.specs.Outcomes.{pick_outcome, step_outcome, finish_outcome, timeout_outcome, cancelled_device, reap_outcome}
use Rattle.drm_state.specs.Refusals.{pick_refusal, finish_refusal, reap_refusal}
use Rattle.drm_state.specs.Reservation.{Fits}
use Rattle.drm_state.specs.Steady.{IsSteady}

-- the device is steady, the old one grew to it, and no job was armed
pub record IsKept (old new : DeviceState) : Type 0 where
  pub steady : IsSteady new
  pub grows : Grows old new
  pub count : length new.journal ≡ length old.journal

-- the device after an arming is steady, the old one grew to it, and each reservation that fitted fits with the job's
-- use
pub record IsArmedOf (device : DeviceState) (job : Draft) : Type 0 where
  pub steady : IsSteady (armed_device device job)
  pub grows : Grows device (armed_device device job)
  pub fits : (buffer : ℕ) (resv : Reservation) → Fits buffer device.journal resv
      → Fits buffer (armed_device device job).journal (armed_reservation device.journal job buffer resv)

-- so for each event of a steady device that is not refused
pub record EventsKeep (device : DeviceState) : Type 0 where
  pub picks : (ring now : ℕ) → ring < length device.spec.rings → pick_refusal device ring ≡ None → IsKept device (pick_outcome device ring now).1
  pub steps : (ring : ℕ) → ring < length device.spec.rings → IsKept device (step_outcome device ring).1
  pub finishes : (ring now : ℕ) → ring < length device.spec.rings → finish_refusal device ring ≡ None → IsKept device (finish_outcome device ring now).1
  pub timeouts : (ring now : ℕ) → ring < length device.spec.rings → IsKept device (timeout_outcome device ring now).1
  pub cancels : (entity : ℕ) → IsKept device (cancelled_device device entity)
  pub reaps : (entity : ℕ) → reap_refusal device entity ≡ None → IsKept device (reap_outcome device entity).1
  pub arms : (job : Draft) → IsJob device.spec job → IsArmedOf device job

-- a device opens steady and each event keeps it so, and with it what fits its jobs
pub record DevicesStaySteady : Type 0 where
  pub opens : (spec : DeviceSpec) → IsSteady (opened_device spec)
  pub events : (device : DeviceState) → IsSteady device → EventsKeep device
  pub fits : (old new : DeviceState) (buffer : ℕ) (resv : Reservation) → IsKept old new → Fits buffer old.journal resv → Fits buffer new.journal resv
