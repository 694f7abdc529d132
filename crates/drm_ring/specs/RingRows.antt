-- The rings: what is pending on each.
use Rattle.std.specs.Prelude.{ℕ, ◌-◌, ◌<◌, ◌≤◌, ◌≡◌, Bool, true, false, ◌==◌, if◌then◌else◌, List, [], ◌∷◌, ◌++◌, length, drop, Option, Some, None, slice_get, slice_set}
use Rattle.std.specs.Option.{option_map_or}
use Rattle.drm_types.specs.Firsts.{first}
use Rattle.drm_types.specs.declared.spec.RingSpec.{RingSpec}
use Rattle.drm_ring.specs.Counted.{Counted, taken, given_back}

-- a ring: the numbers of its pending jobs in order, and the moment from which its head's age counts
pub record RingState : Type 0 where
  pub pending : List ℕ
  pub since : ℕ

-- the ring with one more pending job, from now on where it is the first
abbrev pub put_in : ℕ → ℕ → RingState → RingState
put_in number now s = record {
  pending = s.pending ++ number ∷ [];
  since = if length s.pending == 0 then now else s.since;
}

-- the ring without its head. The next job's age counts from now
abbrev pub popped_at : ℕ → RingState → RingState
popped_at now s = record { pending = drop 1 s.pending; since = if length s.pending == 1 then s.since else now }

-- what is kept of a ring: its state, how many jobs at the front it is done with, and the credits that all of them count
pub record RingRow : Type 0 where
  pub state : RingState
  pub passed : ℕ
  pub credits : Counted

abbrev pub pending_at : List RingRow → ℕ → List ℕ
pending_at rings ring = option_map_or (λ r. r.state.pending) (slice_get rings ring) []

abbrev pub passed_at : List RingRow → ℕ → ℕ
passed_at rings ring = option_map_or (λ r. r.passed) (slice_get rings ring) 0

abbrev pub head_at : List RingRow → ℕ → Option ℕ
head_at rings ring = first (pending_at rings ring)

-- the first job behind those that the ring is done with
abbrev pub current_at : List RingRow → ℕ → Option ℕ
current_at rings ring = option_map_or (λ r. slice_get r.state.pending r.passed) (slice_get rings ring) None

abbrev pub ring_row_changed : List RingRow → ℕ → (RingRow → RingRow) → List RingRow
ring_row_changed rings ring change = option_map_or (λ r. slice_set rings ring (change r)) (slice_get rings ring) rings

-- a ring with nothing pending
abbrev pub idle_row : RingSpec → RingRow
idle_row ring = record {
  state = record { pending = []; since = 0 };
  passed = 0;
  credits = record { limit = ring.credit_limit; count = 0 };
}

abbrev pub put_row : ℕ → ℕ → ℕ → RingRow → RingRow
put_row number credits now r = record r { state = put_in number now r.state; credits = taken credits r.credits }

abbrev pub popped_row : ℕ → ℕ → RingRow → RingRow
popped_row credits now r = record { state = popped_at now r.state; passed = r.passed - 1; credits = given_back credits r.credits }

abbrev pub since_row : ℕ → RingRow → RingRow
since_row now r = record r { state = record r.state { since = now } }

-- the jobs from one place to another were answered false
pub record HasPassed (Answers : ℕ → Bool → Type 0) (pending : List ℕ) (from to : ℕ) : Type 0 where
  pub forth : from ≤ to
  pub within : to ≤ length pending
  pub done : (k f : ℕ) → from ≤ k → k < to → slice_get pending k ≡ Some f → Answers f false

-- and the one that stands there, if there is one, true
pub record PassesTo (Answers : ℕ → Bool → Type 0) (pending : List ℕ) (from to : ℕ) : Type 0 where
  pub passed : HasPassed Answers pending from to
  pub next : (f : ℕ) → slice_get pending to ≡ Some f → Answers f true
