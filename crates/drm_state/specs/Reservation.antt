-- Reservations: what armings add, and what their entries have to cover.
use Rattle.std.specs.Prelude.{◌≡◌, ℕ, Bool, ◌&&◌, ◌==◌, nat_le, IsTrue, List, Option, Some, None, option_map, slice_get, All}
use Rattle.std.specs.List.{filter_map, list_any}
use Rattle.drm_types.specs.declared.access.Usage.{Usage}
use Rattle.drm_types.specs.Usages.{added_usage, is_as_strong}
use Rattle.drm_job.specs.declared.Draft.{Draft}
use Rattle.drm_job.specs.Uses.{access_of}
use Rattle.drm_state.specs.declared.journal.JobRecord.{JobRecord}
use Rattle.drm_resv.specs.declared.entry.Entry.{Entry}
use Rattle.drm_resv.specs.Reservation.{Reservation}
use Rattle.drm_state.specs.Journal.{numbered, is_at}
use Rattle.drm_fence.specs.Phases.{has_ended, outcome_of}

-- what a job adds to a buffer, if it uses it
abbrev pub usage_at : ℕ → Draft → Option Usage
usage_at buffer job = option_map added_usage (access_of job buffer)

-- the armed jobs that use the buffer, each with what it added, in order
abbrev pub arms : ℕ → List JobRecord → List (ℕ × Usage)
arms buffer journal = filter_map (λ n. option_map (λ u. (n.0, u)) (usage_at buffer n.1.job)) (numbered journal)

-- whether the fence has an outcome
abbrev pub is_signaled : List JobRecord → ℕ → Bool
is_signaled journal fence = is_at journal fence (λ r. has_ended r.phase)

-- an entry stands for the job of this number that adds this usage: same entity, no older, no weaker
abbrev pub stands_for : ℕ → JobRecord → Usage → Entry → Bool
stands_for number r usage e = (e.entity == r.job.entity) && nat_le number e.fence && is_as_strong e.usage usage

-- each armed job that uses the buffer and has no outcome has an entry that stands for it
abbrev pub Covers : ℕ → List JobRecord → List Entry → Type 0
Covers buffer journal entries =
    (i : ℕ) (r : JobRecord) (usage : Usage) → slice_get journal i ≡ Some r → usage_at buffer r.job ≡ Some usage
    → outcome_of r.phase ≡ None → IsTrue (list_any (stands_for i r usage) entries)

-- an entry was added by a job, and carries the entity of that job
abbrev pub IsOfJob : ℕ → List JobRecord → Entry → Type 0
IsOfJob buffer journal e =
    (r : JobRecord) × (slice_get journal e.fence ≡ Some r) × (usage_at buffer r.job ≡ Some e.usage) × (r.job.entity ≡ e.entity)

-- the reservation fits the journal: its history is that of the armed jobs, and its entries cover all that have not
-- ended
pub record Fits (buffer : ℕ) (journal : List JobRecord) (resv : Reservation) : Type 0 where
  pub history : resv.history ≡ arms buffer journal
  pub of_jobs : All (IsOfJob buffer journal) resv.entries
  pub covers : Covers buffer journal resv.entries
