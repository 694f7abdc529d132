-- What a plan takes from the reservations that its context holds.
use Rattle.std.specs.Prelude.{◌≡◌, ℕ, Bool, false, ◌==◌, IsTrue, List, [], length, map, Some, Option, is_some, option_and_then, slice_get}
use Rattle.std.specs.Option.{option_map_or}
use Rattle.drm_types.specs.declared.access.Access.{Access}
use Rattle.drm_types.specs.declared.access.Usage.{Usage}
use Rattle.drm_job.specs.declared.Draft.{Draft}
use Rattle.drm_resv.specs.Reservation.{Reservation, WithRoom}
use Rattle.drm_state.specs.Reservation.{usage_at}
use Rattle.drm_state.specs.Uses.{HasUse}

-- whether a context holds the buffer
abbrev pub is_held_in : List (Option ℕ) → ℕ → Bool
is_held_in holders buffer = is_some (option_and_then (λ o. o) (slice_get holders buffer))

-- whether this context holds it
abbrev pub holds_in : List (Option ℕ) → ℕ → ℕ → Bool
holds_in holders ctx buffer = option_map_or (λ h. h == ctx) (option_and_then (λ o. o) (slice_get holders buffer)) false

-- what the reservation of a buffer keeps
abbrev pub kept_at : List WithRoom → ℕ → Reservation
kept_at reservations buffer = option_map_or (λ r. r.kept) (slice_get reservations buffer) (record { entries = []; history = [] })

-- what those of the declared buffers keep, each with its buffer
abbrev pub declared_kept : List WithRoom → List (ℕ × Access) → List (ℕ × Reservation)
declared_kept reservations declared = map (λ d. (d.0, kept_at reservations d.0)) declared

-- each reservation is as it was, with no less room
pub record MoreRoom (old new : List WithRoom) : Type 0 where
  pub count : length new ≡ length old
  pub each : (k : ℕ) (r : WithRoom) → slice_get old k ≡ Some r
      → (m : WithRoom) × (slice_get new k ≡ Some m) × (m.kept ≡ r.kept) × (IsTrue r.has_room → IsTrue m.has_room)

-- each of these buffers has room for one more use
abbrev pub HasRoomFor : List (ℕ × Access) → List WithRoom → Type 0
HasRoomFor declared reservations =
    (k : ℕ) (d : ℕ × Access) (r : WithRoom) → slice_get declared k ≡ Some d → slice_get reservations d.0 ≡ Some r → IsTrue r.has_room

-- each reservation of a buffer that the job uses has room
abbrev pub AreRoomy : Draft → List WithRoom → Type 0
AreRoomy job reservations =
    (k : ℕ) (r : WithRoom) (usage : Usage) → slice_get reservations k ≡ Some r → usage_at k job ≡ Some usage → IsTrue r.has_room

-- the job declares no buffer twice
abbrev pub DeclaresOnce : Draft → Type 0
DeclaresOnce job =
    (j k : ℕ) (d e : ℕ × Access) → slice_get job.declared j ≡ Some d → slice_get job.declared k ≡ Some e → d.0 ≡ e.0 → j ≡ k

-- of all reservations each is as it was, or has gained the job's use (`HasUse`)
pub record HaveUses (ended : ℕ → Bool) (fence : ℕ) (job : Draft) (old new : List WithRoom) : Type 0 where
  pub count : length new ≡ length old
  pub each : (k : ℕ) (r : WithRoom) → slice_get old k ≡ Some r → (m : WithRoom) × (slice_get new k ≡ Some m) × HasUse ended fence job k r m

-- the two jobs declare no buffer in common
abbrev pub ShareNoBuffer : Draft → Draft → Type 0
ShareNoBuffer job other =
    (i j : ℕ) (d e : ℕ × Access) → slice_get job.declared i ≡ Some d → slice_get other.declared j ≡ Some e → d.0 ≡ e.0 → ⊥
