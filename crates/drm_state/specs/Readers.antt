-- What a reader relies on while it holds a buffer.
use Rattle.std.specs.Prelude.{◌≡◌, ℕ, ◌≤◌, length, Some, None, slice_get}
use Rattle.drm_buffer.specs.Memory.{bytes_of}
use Rattle.drm_resv.specs.Reservation.{Reservation}
use Rattle.drm_state.specs.declared.journal.JobRecord.{JobRecord}
use Rattle.drm_state.specs.State.{DeviceState}
use Rattle.drm_state.specs.Grows.{Grows}
use Rattle.drm_state.specs.Lawful.{IsLawfulDevice}
use Rattle.drm_state.specs.Reservation.{usage_at, Fits}
use Rattle.drm_state.specs.Writers.{HaveEnded}

-- a buffer is held while the old device grows to the new one: one and the same reservation of it fits both
pub record StaysHeld (buffer : ℕ) (resv : Reservation) (old new : DeviceState) : Type 0 where
  pub lawful_old : IsLawfulDevice old
  pub lawful_new : IsLawfulDevice new
  pub grows : Grows old new
  pub fits_old : Fits buffer old.journal resv
  pub fits_new : Fits buffer new.journal resv

-- no job that was armed meanwhile uses the buffer; and where every armed job that wrote it had ended, they have still,
-- and its bytes stay
pub record BytesStay : Type 0 where
  pub unused : (buffer : ℕ) (resv : Reservation) (old new : DeviceState) → StaysHeld buffer resv old new
      → (fence : ℕ) (r : JobRecord) → length old.journal ≤ fence → slice_get new.journal fence ≡ Some r → usage_at buffer r.job ≡ None
  pub ended : (buffer : ℕ) (resv : Reservation) (old new : DeviceState) → StaysHeld buffer resv old new
      → HaveEnded buffer old.journal → HaveEnded buffer new.journal
  pub bytes : (buffer : ℕ) (resv : Reservation) (old new : DeviceState) → StaysHeld buffer resv old new
      → HaveEnded buffer old.journal → bytes_of new.memory buffer ≡ bytes_of old.memory buffer
