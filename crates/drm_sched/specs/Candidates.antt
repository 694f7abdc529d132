-- Which head goes first at a pick.
use Rattle.std.specs.Prelude.{◌≡◌, ℕ, Bool, ◌&&◌, ◌||◌, ◌==◌, nat_lt, IsTrue, Some, slice_get}
use Rattle.drm_types.specs.Priorities.{rank_of}
use Rattle.drm_state.specs.declared.journal.JobRecord.{JobRecord}
use Rattle.drm_runq.specs.declared.key.Key.{Key}
use Rattle.drm_state.specs.State.{DeviceState}
use Rattle.drm_state.specs.Choice.{is_head_of, may_begin}

-- whether a candidate goes first: of a higher priority, or of the same and with a lower number
abbrev pub goes_first : Key → Key → Bool
goes_first a b =
    nat_lt (rank_of a.priority) (rank_of b.priority) || ((rank_of a.priority == rank_of b.priority) && nat_lt a.age b.age)

-- the head of an entity's queue, where the entity is not stopped and the head runs on the ring
pub record IsHeadCandidate (device : DeviceState) (ring entity : ℕ) (key : Key) : Type 0 where
  pub head : JobRecord
  pub at : slice_get device.journal key.age ≡ Some head
  pub of_entity : head.job.entity ≡ entity
  pub on_ring : IsTrue (head.ring == ring)
  pub may : IsTrue (may_begin device key.priority entity)
  pub is_head : IsTrue (is_head_of entity device.journal key.age)
