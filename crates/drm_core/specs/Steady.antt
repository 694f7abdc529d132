-- What holds of every core beside its laws, and from which they follow at the next event.
use Rattle.std.specs.Prelude.{◌≡◌, ℕ, ◌<◌, IsTrue, Bool, List, length, Option, Some, is_some, option_and_then, slice_get, Contains}
use Rattle.drm_state.specs.declared.journal.JobRecord.{JobRecord}
use Rattle.drm_state.specs.State.{DeviceState}
use Rattle.drm_core.specs.State.{Context, CoreState}
use Rattle.drm_resv.specs.Reservation.{Reservation}
use Rattle.drm_state.specs.Order.{HasPlace}
use Rattle.drm_job.specs.declared.Draft.{Draft}
use Rattle.drm_job.specs.Fault.{IsJob, buffers_of}
use Rattle.drm_core.specs.Context.{holds}
use Rattle.drm_core.specs.Refusals.{plan_of}
use Rattle.drm_state.specs.Reservation.{Fits}
use Rattle.drm_state.specs.Steady.{IsSteady}

-- a core over a steady device: each reservation fits it, and each plan is a job
pub record IsSteadyCore (state : CoreState) : Type 0 where
  pub device : IsSteady state.device
  pub plans : (ctx : ℕ) (job : Draft) → plan_of state ctx ≡ Some job → IsJob state.device.spec job
  pub reservations : (buffer : ℕ) → buffer < length state.device.spec.buffers
      → (resv : Reservation) × (slice_get state.reservations buffer ≡ Some resv) × Fits buffer state.device.journal resv

-- each context holds the buffers of what it has planned
abbrev pub PlansHeld : CoreState → Type 0
PlansHeld state =
    (ctx : ℕ) (job : Draft) → plan_of state ctx ≡ Some job → (buffer : ℕ) → Contains (buffers_of job) buffer → IsTrue (holds state ctx buffer)

-- whether the context has begun
abbrev pub begun_in : List (Option Context) → ℕ → Bool
begun_in contexts ctx = is_some (option_and_then (λ o. o) (slice_get contexts ctx))

-- who holds a buffer has begun
abbrev pub HoldersBegun : CoreState → Type 0
HoldersBegun state = (ctx buffer : ℕ) → IsTrue (holds state ctx buffer) → IsTrue (begun_in state.contexts ctx)

-- each armed job has its place among the jobs of the device
abbrev pub JobsHavePlace : DeviceState → Type 0
JobsHavePlace device = (number : ℕ) (r : JobRecord) → slice_get device.journal number ≡ Some r → HasPlace device.spec number r.job
