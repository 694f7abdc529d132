-- What a timeout finds of the head of a ring, and what a hang changes.
use Rattle.std.specs.Prelude.{ℕ, ◌||◌, ◌==◌, List, fold, Some, slice_get}
use Rattle.std.specs.Option.{option_map_or}
use Rattle.drm_types.specs.declared.spec.Priority.{Priority}
use Rattle.drm_reset.specs.Blame.{blamed}
use Rattle.drm_reset.specs.Judging.{verdict_of}
use Rattle.drm_reset.specs.declared.verdict.Verdict.{Verdict}
use Rattle.drm_state.specs.declared.journal.JobRecord.{JobRecord}
use Rattle.drm_state.specs.State.{DeviceState}
use Rattle.drm_state.specs.Journal.{is_at, changed_at, is_complete}
use Rattle.drm_state.specs.Ring.{limit_of}

-- what a timeout finds of this job as the head of the ring
abbrev pub verdict_at : DeviceState → ℕ → ℕ → ℕ → Verdict
verdict_at device ring number now =
    verdict_of
    (Some (record {
      since = option_map_or (λ r. r.since) (slice_get device.rings ring) 0;
      is_complete = is_at device.journal number is_complete;
    }))
    (limit_of (λ l. l.timeout) device ring)
    now

-- the record after one more hang of a job whose entity has this priority
abbrev pub blamed_by : Priority → JobRecord → JobRecord
blamed_by priority r = record r { karma = blamed priority r.karma }

-- the record of a job that is skipped if it is of the entity
abbrev pub skipped_of : ℕ → JobRecord → JobRecord
skipped_of entity r = record r { is_skipped = (r.job.entity == entity) || r.is_skipped }

-- the entity's jobs among these are skipped
abbrev pub all_skipped : ℕ → List JobRecord → List ℕ → List JobRecord
all_skipped entity journal numbers = fold (λ js f. changed_at js f (skipped_of entity)) journal numbers
