-- What a plan waits for: the armed jobs that it meets.
use Rattle.std.specs.Prelude.{◌≡◌, ℕ, ◌≤◌, false, IsTrue, List, fold, Some, slice_get, Contains, All}
use Rattle.std.specs.Option.{option_map_or}
use Rattle.drm_job.specs.declared.Draft.{Draft}
use Rattle.drm_job.specs.Conflicts.{conflicts}
use Rattle.drm_fence.specs.Phases.{has_ended}
use Rattle.drm_resv.specs.Latest.{noted}
use Rattle.drm_state.specs.declared.journal.JobRecord.{JobRecord}
use Rattle.drm_state.specs.State.{DeviceState}

-- a dependency (entity, fence) of a planned job: an armed job of that entity that conflicts
abbrev pub MeetsPlan : List JobRecord → Draft → ℕ × ℕ → Type 0
MeetsPlan journal job d = (x : JobRecord) × (slice_get journal d.1 ≡ Some x) × (x.job.entity ≡ d.0) × IsTrue (conflicts x.job job)

-- the dependencies cover: each armed job that conflicts and has no outcome has one of its entity, at least as late;
-- and each is an armed job of its entity that conflicts
pub record DepsCover (device : DeviceState) (job : Draft) (deps : List (ℕ × ℕ)) : Type 0 where
  pub covers : (i : ℕ) (x : JobRecord) → slice_get device.journal i ≡ Some x → IsTrue (conflicts x.job job) → has_ended x.phase ≡ false
      → (f : ℕ) × Contains deps (x.job.entity, f) × (i ≤ f)
  pub of_jobs : All (MeetsPlan device.journal job) deps

-- the entity of the job of this number
abbrev pub entity_at : List JobRecord → ℕ → ℕ
entity_at journal fence = option_map_or (λ r. r.job.entity) (slice_get journal fence) 0

-- the dependencies after the named fences were noted, each with its entity
abbrev pub all_named : List JobRecord → List (ℕ × ℕ) → List ℕ → List (ℕ × ℕ)
all_named journal deps after = fold (λ d f. noted d (entity_at journal f) f) deps after
