-- What an arming adds to reservations: the job's use of each buffer.
use Rattle.std.specs.Prelude.{◌≡◌, ℕ, Bool, List, length, Some, None, slice_get}
use Rattle.drm_types.specs.declared.access.Usage.{Usage}
use Rattle.drm_job.specs.declared.Draft.{Draft}
use Rattle.drm_resv.specs.Entries.{added_to}
use Rattle.drm_resv.specs.Reservation.{WithRoom}
use Rattle.drm_state.specs.Reservation.{usage_at}

-- a reservation after the job's use was added, where it uses the buffer; the others are as they were
abbrev pub HasUse : (ℕ → Bool) → ℕ → Draft → ℕ → WithRoom → WithRoom → Type 0
HasUse ended fence job buffer old new =
    ((usage : Usage) → usage_at buffer job ≡ Some usage → new.kept ≡ added_to ended old.kept (record { fence = fence; entity = job.entity; usage = usage }))
    × (usage_at buffer job ≡ None → new ≡ old)

-- so for reservations that stand with their buffers
pub record HeldHaveUses (ended : ℕ → Bool) (fence : ℕ) (job : Draft) (old new : List (ℕ × WithRoom)) : Type 0 where
  pub count : length new ≡ length old
  pub each : (k : ℕ) (h : ℕ × WithRoom) → slice_get old k ≡ Some h
      → (m : ℕ × WithRoom) × (slice_get new k ≡ Some m) × (m.0 ≡ h.0) × HasUse ended fence job h.0 h.1 m.1
