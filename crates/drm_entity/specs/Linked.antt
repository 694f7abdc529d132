-- Queues that are linked through one index array.
use Rattle.std.specs.Prelude.{◌≡◌, ℕ, zero, suc, ◌<◌, List, [], ◌∷◌, length, Some, slice_get, slice_index}
use Rattle.drm_entity.specs.declared.entities.Links.{Links}
use Rattle.drm_entity.specs.Rows.{EntityRow}

-- so many numbers from this one on, each linked to the next
abbrev pub walk : List ℕ → ℕ → ℕ → List ℕ
walk next number zero = []
walk next number (suc left) = number ∷ walk next (slice_index next number) left

abbrev pub queue_of : List ℕ → Links → List ℕ
queue_of next l = walk next l.first l.len

abbrev pub row_of : List ℕ → Links → EntityRow
row_of next l = record { queue = queue_of next l; is_stopped = l.is_stopped; is_guilty = l.is_guilty }

-- the number stands at this place of the queue of this entity
pub record StandsAt (next : List ℕ) (links : List Links) (entity place number : ℕ) : Type 0 where
  pub link : Links
  pub is_link : slice_get links entity ≡ Some link
  pub at : slice_get (queue_of next link) place ≡ Some number

-- the last number of a queue is kept, each has a place in the array, and none stands twice
pub record IsLinked (next : List ℕ) (links : List Links) : Type 0 where
  pub last : (entity : ℕ) (l : Links) (before : ℕ) → slice_get links entity ≡ Some l → l.len ≡ suc before
      → slice_get (queue_of next l) before ≡ Some l.last
  pub within : (entity place number : ℕ) → StandsAt next links entity place number → number < length next
  pub apart : (i j a b number : ℕ) → StandsAt next links i a number → StandsAt next links j b number → (i ≡ j) × (a ≡ b)
