-- What holds of every state of a device.
use Rattle.std.specs.Prelude.{◌≡◌, ℕ, ◌<◌, ◌≤◌, ◌↔◌, IsTrue, IsFalse, List, length, Some, slice_get, Contains}
use Rattle.drm_types.specs.declared.outcome.Outcome.TheVariants.{Good, Cancelled, Stopped}
use Rattle.drm_types.specs.declared.spec.DeviceSpec.{DeviceSpec}
use Rattle.drm_job.specs.Fault.{IsJob}
use Rattle.drm_serial.specs.Serial.{serial}
use Rattle.drm_fence.specs.declared.phase.Phase.{Phase}
use Rattle.drm_fence.specs.declared.phase.Phase.TheVariants.{Queued, Scheduled, Ended}
use Rattle.drm_state.specs.declared.journal.JobRecord.{JobRecord}
use Rattle.drm_state.specs.State.{DeviceState}
use Rattle.drm_state.specs.Journal.{turns, is_over}
use Rattle.drm_fence.specs.Phases.{is_queued, has_ended}
use Rattle.drm_state.specs.Order.{comes_after}
use Rattle.drm_state.specs.Ring.{pending_of, credit_limit_of, used_credits}

-- the outcome is right: good with all packets run and no skipped mark, cancelled with the mark, stopped with nothing
-- run
abbrev pub HasRightOutcome : JobRecord → Phase → Type 0
HasRightOutcome r Queued = Unit {0}
HasRightOutcome r Scheduled = Unit {0}
HasRightOutcome r (Ended Good) = (r.ran ≡ length r.job.packets) × IsFalse r.is_skipped
HasRightOutcome r (Ended Cancelled) = IsTrue r.is_skipped
HasRightOutcome r (Ended Stopped) = r.ran ≡ 0

-- what holds of one record
pub record IsSound (spec : DeviceSpec) (r : JobRecord) : Type 0 where
  pub job : IsJob spec r.job
  pub ran : r.ran ≤ length r.job.packets
  pub outcome : HasRightOutcome r r.phase
  pub queued : IsTrue (is_queued r.phase) → r.ran ≡ 0

-- a relation of each two records, the earlier first
abbrev pub EachTwo : List JobRecord → (ℕ → JobRecord → ℕ → JobRecord → Type 0) → Type 0
EachTwo journal Related =
    (i j : ℕ) (earlier later : JobRecord) → i < j → slice_get journal i ≡ Some earlier → slice_get journal j ≡ Some later
    → Related i earlier j later

-- a job that has ended or run comes after jobs that have ended or are over
pub record ComesInOrder (number : ℕ) (earlier : JobRecord) (place : ℕ) (later : JobRecord) : Type 0 where
  pub ended : IsTrue (comes_after later.job number earlier.job) → IsTrue (has_ended later.phase) → IsTrue (has_ended earlier.phase)
  pub ran : IsTrue (comes_after later.job number earlier.job) → 0 < later.ran → IsTrue (is_over earlier)

-- the jobs of one entity begin and end in order
pub record KeepsEntityOrder (number : ℕ) (earlier : JobRecord) (place : ℕ) (later : JobRecord) : Type 0 where
  pub begun : earlier.job.entity ≡ later.job.entity → IsFalse (is_queued later.phase) → IsFalse (is_queued earlier.phase)
  pub ended : earlier.job.entity ≡ later.job.entity → IsTrue (has_ended later.phase) → IsTrue (has_ended earlier.phase)

-- no number stands twice
abbrev pub IsOnce : List ℕ → Type 0
IsOnce numbers = (i j : ℕ) (f : ℕ) → slice_get numbers i ≡ Some f → slice_get numbers j ≡ Some f → i ≡ j

-- a number is pending on the ring exactly where its record is scheduled there
abbrev pub IsPendingList : List JobRecord → ℕ → List ℕ → Type 0
IsPendingList journal ring numbers =
    (f : ℕ) → Contains numbers f ↔ ((r : JobRecord) × (slice_get journal f ≡ Some r) × (r.phase ≡ Scheduled) × (r.ring ≡ ring))

-- a lawful ring: its pending list, and its credits within the limit
pub record IsLawfulRing (device : DeviceState) (ring : ℕ) : Type 0 where
  pub pending : IsPendingList device.journal ring (pending_of device ring)
  pub once : IsOnce (pending_of device ring)
  pub credits : used_credits device ring ≤ credit_limit_of device ring

-- a lawful device: its memory is that of the machine that runs its jobs one after another
pub record IsLawfulDevice (device : DeviceState) : Type 0 where
  pub ring_count : length device.rings ≡ length device.spec.rings
  pub entity_count : length device.entities ≡ length device.spec.entities
  pub memory : device.memory ≡ serial device.spec.buffers (turns device.journal)
  pub records : (i : ℕ) (r : JobRecord) → slice_get device.journal i ≡ Some r → IsSound device.spec r
  pub rings : (ring : ℕ) → ring < length device.spec.rings → IsLawfulRing device ring
  pub follows : EachTwo device.journal ComesInOrder
  pub entities : EachTwo device.journal KeepsEntityOrder
