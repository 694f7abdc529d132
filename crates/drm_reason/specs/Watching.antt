-- What is kept of a job between two looks at it: below which numbers no job holds it up any more.
use Rattle.std.specs.Prelude.{◌≡◌, ℕ, ◌<◌, Bool, IsFalse, List, length, Some, slice_get}
use Rattle.drm_state.specs.declared.journal.JobRecord.{JobRecord}
use Rattle.drm_state.specs.State.{DeviceState}
use Rattle.drm_state.specs.Grows.{Grows}
use Rattle.drm_reason.specs.declared.watch.Watch.{Watch}
use Rattle.drm_reason.specs.Reasons.{is_going}
use Rattle.drm_reason.specs.Standing.{is_unmet}

-- the entity and the ring of a job are there
pub record IsThere (device : DeviceState) (job : JobRecord) : Type 0 where
  pub entity : job.job.entity < length device.spec.entities
  pub ring : job.ring < length device.spec.rings

-- none of the records below this number passes the test
abbrev pub NoneBelow : List JobRecord → (ℕ × JobRecord → Bool) → ℕ → Type 0
NoneBelow journal test below = (i : ℕ) (earlier : JobRecord) → i < below → slice_get journal i ≡ Some earlier → IsFalse (test (i, earlier))

-- none of the earlier records below this number passes the test for the job of that number. It is armed, where there
-- are any
pub record IsKnownBelow (journal : List JobRecord) (number : ℕ) (test : JobRecord → ℕ × JobRecord → Bool) (below : ℕ) : Type 0 where
  pub armed : 0 < below → (job : JobRecord) × (slice_get journal number ≡ Some job)
  pub within : (i : ℕ) → i < below → i < length journal
  pub none : (job : JobRecord) → slice_get journal number ≡ Some job → NoneBelow journal (test job) below

-- so of fences that are not met, and of jobs that have to end before
pub record Knows (device : DeviceState) (watch : Watch) : Type 0 where
  pub met : IsKnownBelow device.journal watch.fence is_unmet watch.met
  pub ended : IsKnownBelow device.journal watch.fence is_going watch.ended

-- what is known of a device stays so, however it grows
abbrev pub KnowledgeStays : Type 0
KnowledgeStays = (old new : DeviceState) (watch : Watch) → Grows old new → Knows old watch → Knows new watch
