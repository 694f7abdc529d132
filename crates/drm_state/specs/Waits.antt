-- What an armed job keeps of the fences that it waits for: the latest of each entity.
use Rattle.std.specs.Prelude.{◌≡◌, ℕ, ◌<◌, ◌≤◌, IsTrue, IsFalse, List, Some, slice_get, Contains, All}
use Rattle.drm_fence.specs.Phases.{has_ended}
use Rattle.drm_job.specs.declared.Draft.{Draft}
use Rattle.drm_state.specs.declared.journal.JobRecord.{JobRecord}
use Rattle.drm_state.specs.Order.{comes_after}

-- a dependency (entity, fence) of job j: an earlier job of that entity that it comes after
abbrev pub IsDependency : List JobRecord → ℕ → Draft → ℕ × ℕ → Type 0
IsDependency journal j job d =
    (x : JobRecord) × (slice_get journal d.1 ≡ Some x) × (x.job.entity ≡ d.0) × (d.1 < j) × IsTrue (comes_after job d.1 x.job)

-- the dependencies of job j: each earlier job that it comes after and that has not ended has one of its entity,
-- at least as late; and each is such a job
pub record DepsStand (journal : List JobRecord) (j : ℕ) (job : Draft) (deps : List (ℕ × ℕ)) : Type 0 where
  pub covers : (i : ℕ) (x : JobRecord) → i < j → slice_get journal i ≡ Some x → IsTrue (comes_after job i x.job) → IsFalse (has_ended x.phase)
      → (f : ℕ) × Contains deps (x.job.entity, f) × (i ≤ f)
  pub of_jobs : All (IsDependency journal j job) deps
