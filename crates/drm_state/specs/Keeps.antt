-- What a device's calls keep for those who hold its reservations, and what its fences show.
use Rattle.std.specs.Prelude.{◌≡◌, ◌≢◌, ◌<◌, ℕ, List, Some, slice_get}
use Rattle.std.specs.Option.{option_map_or}
use Rattle.drm_types.specs.declared.access.Access.{Access}
use Rattle.drm_types.specs.declared.outcome.Outcome.TheVariants.{Good, Cancelled, Stopped}
use Rattle.drm_job.specs.declared.Draft.{Draft}
use Rattle.drm_fence.specs.declared.phase.Phase.{Phase}
use Rattle.drm_fence.specs.declared.phase.Phase.TheVariants.{Queued, Scheduled, Ended}
use Rattle.drm_resv.specs.Reservation.{Reservation}
use Rattle.drm_state.specs.declared.journal.JobRecord.{JobRecord}
use Rattle.drm_state.specs.State.{DeviceState}
use Rattle.drm_state.specs.Reservation.{Fits}

-- what a fence shows: 1 while its job goes on, and from 2 up how it ended
abbrev pub word_of : Phase → ℕ
word_of Queued = 1
word_of Scheduled = 1
word_of (Ended Good) = 2
word_of (Ended Cancelled) = 3
word_of (Ended Stopped) = 4

-- the word of a fence, or 0 where no such job is armed
abbrev pub word_at : List JobRecord → ℕ → ℕ
word_at journal fence = option_map_or (λ r. word_of r.phase) (slice_get journal fence) 0

-- each reservation that fitted fits, and each fence shows what it showed
pub record Keeps (old new : DeviceState) : Type 0 where
  pub fits : (b : ℕ) (x : Reservation) → Fits b old.journal x → Fits b new.journal x
  pub words : (f : ℕ) → word_at new.journal f ≡ word_at old.journal f

-- the same, where one fence comes to show this word
pub record KeepsBut (fence shown : ℕ) (old new : DeviceState) : Type 0 where
  pub place : fence < old.spec.max_jobs
  pub fits : (b : ℕ) (x : Reservation) → Fits b old.journal x → Fits b new.journal x
  pub word : word_at new.journal fence ≡ shown
  pub words : (f : ℕ) → f ≢ fence → word_at new.journal f ≡ word_at old.journal f

-- the same of the fence of a job that is armed. What fitted fits at each buffer that the job does not declare
pub record KeepsArmed (job : Draft) (fence : ℕ) (old new : DeviceState) : Type 0 where
  pub place : fence < old.spec.max_jobs
  pub fits : (b : ℕ) (x : Reservation) → ((k : ℕ) (d : ℕ × Access) → slice_get job.declared k ≡ Some d → d.0 ≢ b) → Fits b old.journal x → Fits b new.journal x
  pub word : word_at new.journal fence ≡ 1
  pub words : (f : ℕ) → f ≢ fence → word_at new.journal f ≡ word_at old.journal f
