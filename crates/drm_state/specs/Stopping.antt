-- When a job of a stopped entity may end, by the dependencies that are kept for it and the pending jobs of its ring.
use Rattle.std.specs.Prelude.{ℕ, Bool, not, ◌&&◌, ◌==◌, List}
use Rattle.std.specs.List.{list_all}
use Rattle.drm_fence.specs.Phases.{has_ended}
use Rattle.drm_state.specs.declared.journal.JobRecord.{JobRecord}
use Rattle.drm_state.specs.Journal.{is_at}

-- whether these dependencies all have outcomes, and none of the pending jobs is of the entity
abbrev pub may_end_after : List JobRecord → List (ℕ × ℕ) → List ℕ → ℕ → Bool
may_end_after journal deps pending entity =
    list_all (λ d. is_at journal d.1 (λ r. has_ended r.phase)) deps
    && list_all (λ f. not (is_at journal f (λ r. r.job.entity == entity))) pending
