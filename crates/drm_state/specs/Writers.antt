-- Which jobs write a buffer, and what a read of it waits for.
use Rattle.std.specs.Prelude.{◌≡◌, ℕ, ◌↔◌, Bool, false, IsTrue, List, Some, None, slice_get}
use Rattle.std.specs.Option.{option_map_or}
use Rattle.drm_types.specs.declared.access.Usage.TheVariants.{Write}
use Rattle.drm_types.specs.Usages.{is_as_strong}
use Rattle.drm_job.specs.declared.Draft.{Draft}
use Rattle.drm_fence.specs.Phases.{has_ended}
use Rattle.drm_state.specs.declared.journal.JobRecord.{JobRecord}
use Rattle.drm_resv.specs.Reservation.{Reservation}
use Rattle.drm_state.specs.State.{DeviceState}
use Rattle.drm_state.specs.Refusals.{busy_fence}
use Rattle.drm_state.specs.Reservation.{usage_at, Fits}
use Rattle.drm_state.specs.Steady.{IsSteady}

-- whether a job writes a buffer: there it adds WRITE or stronger
abbrev pub is_writer : Draft → ℕ → Bool
is_writer job buffer = option_map_or (λ usage. is_as_strong usage Write) (usage_at buffer job) false

-- every armed job that writes the buffer has its outcome
abbrev pub HaveEnded : ℕ → List JobRecord → Type 0
HaveEnded buffer journal =
    (fence : ℕ) (r : JobRecord) → slice_get journal fence ≡ Some r → IsTrue (is_writer r.job buffer) → IsTrue (has_ended r.phase)

-- a reservation that fits a steady device has nothing to wait for exactly where every armed job that writes the buffer
-- has ended
abbrev pub ReadsWaitForWriters : Type 0
ReadsWaitForWriters =
    (device : DeviceState) (buffer : ℕ) (resv : Reservation) → IsSteady device → Fits buffer device.journal resv
    → (busy_fence device.journal resv ≡ None) ↔ HaveEnded buffer device.journal
