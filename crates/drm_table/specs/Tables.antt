-- The state that a device's tables stand for, and what they keep.
use Rattle.std.specs.Prelude.{◌≡◌, ℕ, ◌≤◌, false, Contains, length, map, Some, None, slice_get, vec_capacity}
use Rattle.drm_types.specs.Limits.{spec_fault}
use Rattle.drm_buffer.specs.Memory.{sizes_of}
use Rattle.drm_buffer.specs.Stored.{AreIn}
use Rattle.drm_packet.specs.declared.Packet.{Packet}
use Rattle.drm_packet.specs.Touches.{touches}
use Rattle.drm_table.specs.declared.table.Table.{Table}
use Rattle.drm_state.specs.State.{DeviceState}
use Rattle.drm_state.specs.Outcomes.{next_packet}
use Rattle.drm_state.specs.Ring.{current_of}
use Rattle.drm_state.specs.Steady.{IsSteady}
use Rattle.drm_table.specs.Plain.{marks, WaitsStand, QueuesStand}
use Rattle.drm_state.specs.Loads.{LoadsOf}
use Rattle.drm_state.specs.Rows.{ring_state_of, RowsStand}
use Rattle.drm_state.specs.Records.{fence_state_of}

abbrev pub state_of : Table → DeviceState
state_of t = record {
  spec = t.spec;
  memory = t.memory.bytes;
  journal = t.journal.items;
  rings = map ring_state_of t.rings;
  entities = marks t.entities;
}

-- the room that was taken when the device was opened: for all jobs, in their queues too. The pending list of a ring has
-- a place for each of its credits, which is part of its type
pub record HasRooms (t : Table) : Type 0 where
  pub jobs : t.spec.max_jobs ≤ vec_capacity t.journal
  pub waits : t.spec.max_jobs ≤ t.waits.places
  pub places : t.fences.places ≡ t.spec.max_jobs
  pub queues : t.entities.places ≡ t.spec.max_jobs

-- the tables of a steady device: its fences, its queues and its loads are those of its jobs, each job that has not
-- ended has its dependencies, its rings have passed over the jobs that they are done with and count the credits of all
-- that are pending, and there is room for what may come
pub record IsWhole (t : Table) : Type 0 where
  pub steady : IsSteady (state_of t)
  pub limits : spec_fault t.spec ≡ None
  pub count : length t.journal.items ≤ t.spec.max_jobs
  pub fences : t.fences.list ≡ map fence_state_of t.journal.items
  pub waits : WaitsStand t.journal.items t.waits.lists
  pub queues : QueuesStand t.journal.items t.entities
  pub loads : LoadsOf t.spec t.journal.items t.loads
  pub rows : RowsStand (state_of t) t.rings
  pub sizes : sizes_of t.memory.bytes ≡ sizes_of t.spec.buffers
  pub rooms : HasRooms t

-- nothing is out
abbrev pub AllIn : Table → Type 0
AllIn t = AreIn (length t.spec.buffers) t.memory.out

-- no buffer of the ring's next packet is out
abbrev pub NextIsIn : Table → ℕ → Type 0
NextIsIn t ring =
    (f : ℕ) (p : Packet) → current_of (state_of t) ring ≡ Some f → next_packet t.journal.items f ≡ Some p
    → (b : ℕ) → Contains (touches p) b → slice_get t.memory.out b ≡ Some false
