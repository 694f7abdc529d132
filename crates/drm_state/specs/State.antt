-- The state of a device.
use Rattle.std.specs.Prelude.{ℕ, Bool, false, List, [], map}
use Rattle.drm_types.specs.declared.spec.DeviceSpec.{DeviceSpec}
use Rattle.drm_state.specs.declared.journal.JobRecord.{JobRecord}
-- a ring: the numbers of its pending jobs in order, and the moment from which its head's age counts
pub use Rattle.drm_ring.specs.RingRows.{RingState}

-- what is kept of an entity beside its jobs: a stopped one takes no jobs, and its queued jobs are not picked; the jobs
-- of a guilty one are skipped
pub record EntityState : Type 0 where
  pub is_stopped : Bool
  pub is_guilty : Bool

-- the journal has the records of all armed jobs in arming order
pub record DeviceState : Type 0 where
  pub spec : DeviceSpec
  pub memory : List (List ℕ)
  pub journal : List JobRecord
  pub rings : List RingState
  pub entities : List EntityState

-- a device on which no job was armed
abbrev pub opened_device : DeviceSpec → DeviceState
opened_device spec = record {
  spec = spec;
  memory = spec.buffers;
  journal = [];
  rings = map (λ ring. record { pending = []; since = 0 }) spec.rings;
  entities = map (λ entity. record { is_stopped = false; is_guilty = false }) spec.entities;
}
