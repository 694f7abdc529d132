-- Which entity of a run queue comes first.
use Rattle.std.specs.Prelude.{◌≡◌, ℕ, Bool, true, false, ◌&&◌, ◌||◌, ◌==◌, nat_lt, IsTrue, List, Option, Some, slice_get}
use Rattle.drm_types.specs.Priorities.{rank_of}
use Rattle.drm_runq.specs.declared.key.Key.{Key}

-- whether a key comes before another: of a higher priority, or of the same and lower in age
abbrev pub comes_before : Key → Key → Bool
comes_before a b =
    nat_lt (rank_of a.priority) (rank_of b.priority) || ((rank_of a.priority == rank_of b.priority) && nat_lt a.age b.age)

-- the entity has this key
abbrev pub HasKey : List (Option Key) → ℕ → Key → Type 0
HasKey keys entity key = slice_get keys entity ≡ Some (Some key)

-- the entity was answered true, and each that comes before it false
pub record IsFirstReady (Answers : ℕ → Bool → Type 0) (keys : List (Option Key)) (entity : ℕ) : Type 0 where
  pub key : Key
  pub has_key : HasKey keys entity key
  pub ready : Answers entity true
  pub others : (other : ℕ) (k : Key) → HasKey keys other k → IsTrue (comes_before k key) → Answers other false

-- each entity was answered false
abbrev pub NoneReady : (ℕ → Bool → Type 0) → List (Option Key) → Type 0
NoneReady Answers keys = (other : ℕ) (k : Key) → HasKey keys other k → Answers other false
