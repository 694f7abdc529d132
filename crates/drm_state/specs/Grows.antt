-- How a device may change in its life.
use Rattle.std.specs.Prelude.{◌≡◌, ℕ, ◌≤◌, IsTrue, ◌⊎◌, List, Some, slice_get}
use Rattle.drm_fence.specs.declared.phase.Phase.{Phase}
use Rattle.drm_fence.specs.declared.phase.Phase.TheVariants.{Queued, Scheduled, Ended}
use Rattle.drm_state.specs.declared.journal.JobRecord.{JobRecord}
use Rattle.drm_state.specs.State.{EntityState, DeviceState}
use Rattle.drm_fence.specs.Phases.{has_ended}

-- a phase does not go back, and an outcome stays
abbrev pub GoesOn : Phase → Phase → Type 0
GoesOn Queued new = Unit {0}
GoesOn Scheduled Queued = ⊥
GoesOn Scheduled Scheduled = Unit {0}
GoesOn Scheduled (Ended outcome) = Unit {0}
GoesOn (Ended outcome) new = new ≡ Ended outcome

-- how one record may change
pub record RecordGrows (old new : JobRecord) : Type 0 where
  pub job : new.job ≡ old.job
  pub ring : new.ring ≡ old.ring
  pub phase : GoesOn old.phase new.phase
  pub ran : old.ran ≤ new.ran
  pub resets : old.karma.resets ≤ new.karma.resets
  pub karma : old.karma.karma ≤ new.karma.karma
  pub skipped : IsTrue old.is_skipped → IsTrue new.is_skipped
  pub kept : IsTrue old.is_skipped ⊎ IsTrue (has_ended old.phase) → new.ran ≡ old.ran

-- a stopped or guilty entity stays so
pub record EntityGrows (old new : EntityState) : Type 0 where
  pub stopped : IsTrue old.is_stopped → IsTrue new.is_stopped
  pub guilty : IsTrue old.is_guilty → IsTrue new.is_guilty

-- each element of a list stands in the other at its place, related to it
abbrev pub EachInPlace : {X : Type 0} → (X → X → Type 0) → List X → List X → Type 0
EachInPlace {X} Related olds news =
    (i : ℕ) (old : X) → slice_get olds i ≡ Some old → (new : X) × (slice_get news i ≡ Some new) × Related old new

-- how a device may change
pub record Grows (old new : DeviceState) : Type 0 where
  pub spec : new.spec ≡ old.spec
  pub journal : EachInPlace RecordGrows old.journal new.journal
  pub entities : EachInPlace EntityGrows old.entities new.entities
