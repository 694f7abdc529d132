-- What holds of every device beside its laws, and from which they follow at the next event.
use Rattle.std.specs.Prelude.{◌≡◌, ℕ, ◌<◌, ◌⊎◌, IsTrue, IsFalse, List, length, Some, slice_get, Contains}
use Rattle.drm_state.specs.declared.journal.JobRecord.{JobRecord}
use Rattle.drm_state.specs.State.{DeviceState}
use Rattle.drm_fence.specs.Phases.{is_queued, has_ended}
use Rattle.drm_types.specs.declared.spec.DeviceSpec.{DeviceSpec}
use Rattle.drm_state.specs.Order.{comes_after, is_met}
use Rattle.drm_state.specs.Ring.{pending_of}
use Rattle.drm_state.specs.Arming.{rings_of, first_ring}
use Rattle.drm_state.specs.Lawful.{EachTwo, IsLawfulDevice}

-- a job that has begun found the fences met that it waits for, and they stay so
abbrev pub BeginsMet : ℕ → JobRecord → ℕ → JobRecord → Type 0
BeginsMet number earlier place later =
    IsTrue (comes_after later.job number earlier.job) → IsFalse (is_queued later.phase) → IsTrue (is_met later.ring earlier)

-- the later job comes after the earlier, or is of the same entity
abbrev pub MustFollow : ℕ → JobRecord → JobRecord → Type 0
MustFollow number earlier later = IsTrue (comes_after later.job number earlier.job) ⊎ (earlier.job.entity ≡ later.job.entity)

-- of two pending jobs, the one that must follow stands behind
abbrev pub StandsInOrder : List ℕ → ℕ → JobRecord → ℕ → JobRecord → Type 0
StandsInOrder pending i earlier j later =
    MustFollow i earlier later → (a b : ℕ) → slice_get pending a ≡ Some i → slice_get pending b ≡ Some j → a < b

-- an entity changes its ring only where all its jobs have outcomes
abbrev pub StaysHome : ℕ → JobRecord → ℕ → JobRecord → Type 0
StaysHome number earlier place later =
    earlier.job.entity ≡ later.job.entity → IsTrue (has_ended earlier.phase) ⊎ (earlier.ring ≡ later.ring)

-- a ring is listed for the entity (one with no list has its first ring, 0)
abbrev pub IsRingOf : DeviceSpec → ℕ → ℕ → Type 0
IsRingOf spec entity ring = (ring ≡ first_ring spec entity) ⊎ Contains (rings_of spec entity) ring

-- a lawful device whose jobs began in order, each on a ring of its entity
pub record IsSteady (device : DeviceState) : Type 0 where
  pub lawful : IsLawfulDevice device
  pub met : EachTwo device.journal BeginsMet
  pub home : EachTwo device.journal StaysHome
  pub listed : (i : ℕ) (r : JobRecord) → slice_get device.journal i ≡ Some r → IsRingOf device.spec r.job.entity r.ring
  pub order : (ring : ℕ) → ring < length device.spec.rings → EachTwo device.journal (StandsInOrder (pending_of device ring))
