-- What a device's tables keep of the queues and of the dependencies.
use Rattle.std.specs.Prelude.{◌≡◌, ℕ, ◌<◌, List, length, map, Some, slice_get, IsFalse}
use Rattle.drm_fence.specs.Phases.{has_ended}
use Rattle.drm_entity.specs.Rows.{EntityRow, EntityRows, queue_at}
use Rattle.drm_state.specs.declared.journal.JobRecord.{JobRecord}
use Rattle.drm_state.specs.State.{EntityState}
use Rattle.drm_state.specs.Choice.{queue_of}
use Rattle.drm_state.specs.Waits.{DepsStand}

-- what is kept of the entities beside their queues
abbrev pub marks_of : EntityRow → EntityState
marks_of r = record { is_stopped = r.is_stopped; is_guilty = r.is_guilty }

abbrev pub marks : EntityRows → List EntityState
marks entities = map marks_of entities.rows

-- the numbers of the entity's queued jobs
abbrev pub queued_of : ℕ → List JobRecord → List ℕ
queued_of entity journal = map (λ n. n.0) (queue_of entity journal)

-- the queues of the entities are those of the jobs
abbrev pub QueuesStand : List JobRecord → EntityRows → Type 0
QueuesStand journal entities = (entity : ℕ) → entity < length entities.rows → queue_at entities entity ≡ queued_of entity journal

-- the dependencies that are kept for each job that has not ended
pub record WaitsStand (journal : List JobRecord) (waits : List (List (ℕ × ℕ))) : Type 0 where
  pub count : length waits ≡ length journal
  pub stand : (j : ℕ) (r : JobRecord) (deps : List (ℕ × ℕ)) → slice_get journal j ≡ Some r → IsFalse (has_ended r.phase)
      → slice_get waits j ≡ Some deps → DepsStand journal j r.job deps
