-- Which job a ring takes next, told without the list that finds it: of all that may begin, the least.
use Rattle.std.specs.Prelude.{◌≡◌, ℕ, ◌<◌, ◌↔◌, ◌⊎◌, IsTrue, IsFalse, List, length, Some, None, slice_get}
use Rattle.std.specs.Option.{option_map_or}
use Rattle.drm_types.specs.Priorities.{rank_of}
use Rattle.drm_state.specs.declared.journal.JobRecord.{JobRecord}
use Rattle.drm_state.specs.State.{DeviceState}
use Rattle.drm_fence.specs.Phases.{is_queued}
use Rattle.drm_state.specs.Order.{is_ready}
use Rattle.drm_state.specs.Choice.{choice}
use Rattle.drm_state.specs.Ring.{is_stopped}
use Rattle.drm_state.specs.Steady.{IsSteady}

-- the first queued job of an entity: no earlier job of the entity is queued
pub record IsFirstQueued (journal : List JobRecord) (entity number : ℕ) (head : JobRecord) : Type 0 where
  pub at : slice_get journal number ≡ Some head
  pub of_entity : head.job.entity ≡ entity
  pub queued : IsTrue (is_queued head.phase)
  pub first : (i : ℕ) (earlier : JobRecord) → i < number → slice_get journal i ≡ Some earlier → earlier.job.entity ≡ entity
      → IsFalse (is_queued earlier.phase)

-- the job may begin on the ring: it is the first queued one of an entity that is not stopped, armed for this ring, and
-- it is ready
pub record MayBegin (device : DeviceState) (ring entity number : ℕ) : Type 0 where
  pub there : entity < length device.spec.entities
  pub active : IsFalse (is_stopped device entity)
  pub head : JobRecord
  pub first : IsFirstQueued device.journal entity number head
  pub on_ring : head.ring ≡ ring
  pub ready : IsTrue (is_ready device.journal number head)

-- the place of the entity's priority among all priorities, highest first
abbrev pub rank_at : DeviceState → ℕ → ℕ
rank_at device entity = option_map_or (λ e. rank_of e.priority) (slice_get device.spec.entities entity) 0

-- a job of an entity goes before one of another: the entity has the higher priority, or the same and the job the lesser
-- number
abbrev pub GoesBefore : DeviceState → ℕ → ℕ → ℕ → ℕ → Type 0
GoesBefore device entity number other later =
    (rank_at device entity < rank_at device other) ⊎ ((rank_at device entity ≡ rank_at device other) × (number < later))

-- of all jobs that may begin on the ring it is the least: it goes before those of all other entities
pub record IsLeast (device : DeviceState) (ring number : ℕ) : Type 0 where
  pub entity : ℕ
  pub may : MayBegin device ring entity number
  pub before : (other later : ℕ) → MayBegin device ring other later → (other ≡ entity → ⊥) → GoesBefore device entity number other later

-- no job may begin on the ring
abbrev pub NoneMayBegin : DeviceState → ℕ → Type 0
NoneMayBegin device ring = (entity number : ℕ) → MayBegin device ring entity number → ⊥

-- the job that a ring takes next is the least that may begin, and there is none exactly where none may
pub record ChoosesLeast (device : DeviceState) (ring : ℕ) : Type 0 where
  pub some : (number : ℕ) → (choice device ring ≡ Some number) ↔ IsLeast device ring number
  pub none : (choice device ring ≡ None) ↔ NoneMayBegin device ring

-- so for every device whose jobs began in order
abbrev pub ChoiceIsLeast : Type 0
ChoiceIsLeast = (device : DeviceState) (ring : ℕ) → IsSteady device → ChoosesLeast device ring
