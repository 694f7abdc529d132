-- The entities: their queues and marks.
use Rattle.std.specs.Prelude.{ℕ, Bool, List, [], ◌∷◌, ◌++◌, Option, Some, None, slice_get, slice_set, Contains}
use Rattle.std.specs.Option.{option_map_or}

pub record EntityRow : Type 0 where
  pub queue : List ℕ
  pub is_stopped : Bool
  pub is_guilty : Bool

-- the entities, and how many numbers there are for queues
pub record EntityRows : Type 0 where
  pub places : ℕ
  pub rows : List EntityRow

abbrev pub queue_at : EntityRows → ℕ → List ℕ
queue_at e entity = option_map_or (λ r. r.queue) (slice_get e.rows entity) []

-- the last element, if there is one
abbrev pub last_of : List ℕ → Option ℕ
last_of [] = None
last_of (x ∷ xs) = Some (option_map_or (λ y. y) (last_of xs) x)

-- the number stands in no queue
abbrev pub IsFresh : EntityRows → ℕ → Type 0
IsFresh e number = (entity : ℕ) → Contains (queue_at e entity) number → ⊥

abbrev pub row_changed : EntityRows → ℕ → (EntityRow → EntityRow) → EntityRows
row_changed e entity change =
    record e { rows = option_map_or (λ r. slice_set e.rows entity (change r)) (slice_get e.rows entity) e.rows }

abbrev pub pushed : EntityRows → ℕ → ℕ → EntityRows
pushed e entity number = row_changed e entity (λ r. record r { queue = r.queue ++ number ∷ [] })

abbrev pub popped : EntityRows → ℕ → List ℕ → EntityRows
popped e entity rest = row_changed e entity (λ r. record r { queue = rest })
