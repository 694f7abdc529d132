-- The entities of a run queue in their order.
use Rattle.std.specs.Prelude.{◌≡◌, ℕ, ◌+◌, ◌*◌, ◌^◌, ◌<◌, List, Option, Some, slice_get, length, count_by, is_some}
use Rattle.drm_types.specs.Priorities.{rank_of}
use Rattle.drm_runq.specs.declared.key.Key.{Key}
use Rattle.drm_runq.specs.declared.queue.Place.{Place}
use Rattle.drm_runq.specs.Keys.{HasKey}

-- priority, age and entity in one number, for comparing alone
abbrev pub weight_of : ℕ → ℕ → ℕ → ℕ
weight_of rank age entity = rank * 2 ^ 64 + age * 2 ^ 32 + entity

abbrev pub weight : Place → ℕ
weight p = weight_of (rank_of p.key.priority) p.key.age p.entity

-- each place is before all later ones
abbrev pub IsSortedQueue : List Place → Type 0
IsSortedQueue order =
    (i j : ℕ) (p q : Place) → i < j → slice_get order i ≡ Some p → slice_get order j ≡ Some q → weight p < weight q

-- the entity stands in the order by this key, and by no other
pub record StandsBy (order : List Place) (key : Key) (entity : ℕ) : Type 0 where
  pub there : (i : ℕ) × (slice_get order i ≡ Some (record { key = key; entity = entity }))
  pub alone : (i : ℕ) (p : Place) → slice_get order i ≡ Some p → p.entity ≡ entity → p.key ≡ key

-- the order has the entities that have a key, each once, sorted
pub record IsOrderOf (keys : List (Option Key)) (order : List Place) : Type 0 where
  pub sorted : IsSortedQueue order
  pub sound : (i : ℕ) (p : Place) → slice_get order i ≡ Some p → HasKey keys p.entity p.key
  pub whole : (entity : ℕ) (key : Key) → HasKey keys entity key
      → (i : ℕ) × (p : Place) × (slice_get order i ≡ Some p) × (p.entity ≡ entity) × (p.key ≡ key)
  pub fits : (i : ℕ) (p : Place) → slice_get order i ≡ Some p → (p.key.age < 2 ^ 32) × (p.entity < 2 ^ 32)
  pub count : length order ≡ count_by is_some keys
