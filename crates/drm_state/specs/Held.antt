-- The reservations that are held at an arming, each with its buffer.
use Rattle.std.specs.Prelude.{◌≡◌, ℕ, List, map, Some, slice_get, Contains, IsTrue}
use Rattle.drm_types.specs.declared.access.Access.{Access}
use Rattle.drm_types.specs.declared.access.Usage.{Usage}
use Rattle.drm_job.specs.declared.Draft.{Draft}
use Rattle.drm_resv.specs.Reservation.{Reservation, WithRoom}
use Rattle.drm_state.specs.declared.journal.JobRecord.{JobRecord}
use Rattle.drm_state.specs.Arming.{armed_reservation}
use Rattle.drm_state.specs.Reservation.{usage_at, Fits}

-- the buffers of which they are, in order
abbrev pub buffers_of : List (ℕ × WithRoom) → List ℕ
buffers_of held = map (λ h. h.0) held

-- what they keep, without their room
abbrev pub kept_of : List (ℕ × WithRoom) → List (ℕ × Reservation)
kept_of held = map (λ h. (h.0, h.1.kept)) held

-- every buffer that the job declares is held
abbrev pub HoldsAll : Draft → List (ℕ × Reservation) → Type 0
HoldsAll job held = (k : ℕ) (d : ℕ × Access) → slice_get job.declared k ≡ Some d → (x : Reservation) × Contains held (d.0, x)

-- each of a buffer that the job uses has room for one more use
abbrev pub HaveRoom : Draft → List (ℕ × WithRoom) → Type 0
HaveRoom job held =
    (k : ℕ) (h : ℕ × WithRoom) (usage : Usage) → slice_get held k ≡ Some h → usage_at h.0 job ≡ Some usage → IsTrue h.1.has_room

-- what they keep after the arming of the job
abbrev pub armed_held : List JobRecord → Draft → List (ℕ × Reservation) → List (ℕ × Reservation)
armed_held journal job held = map (λ h. (h.0, armed_reservation journal job h.0 h.1)) held

-- each fits the journal
abbrev pub AllFit : List JobRecord → List (ℕ × Reservation) → Type 0
AllFit journal held = (k : ℕ) (h : ℕ × Reservation) → slice_get held k ≡ Some h → Fits h.0 journal h.1
