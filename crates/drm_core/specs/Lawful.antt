-- What holds of every state of the core.
use Rattle.std.specs.Prelude.{◌≡◌, ℕ, ◌<◌, length, Some, slice_get}
use Rattle.drm_job.specs.declared.Draft.{Draft}
use Rattle.drm_job.specs.Fault.{IsJob}
use Rattle.drm_core.specs.State.{CoreState}
use Rattle.drm_state.specs.Reservation.{Fits}
use Rattle.drm_core.specs.Refusals.{plan_of}
use Rattle.drm_state.specs.Lawful.{IsLawfulDevice}

-- a lawful core: its device is lawful, each reservation fits it, and each plan is a job
pub record IsLawful (state : CoreState) : Type 0 where
  pub device : IsLawfulDevice state.device
  pub plans : (ctx : ℕ) (job : Draft) → plan_of state ctx ≡ Some job → IsJob state.device.spec job
  pub reservations : (buffer : ℕ) → buffer < length state.device.spec.buffers
      → (resv : _) × (slice_get state.reservations buffer ≡ Some resv) × Fits buffer state.device.journal resv
