-- What is told of a record: the state of its fence, and how its job ends.
use Rattle.std.specs.Prelude.{if◌then◌else◌, Option, Some, None}
use Rattle.drm_types.specs.declared.outcome.Outcome.{Outcome}
use Rattle.drm_fence.specs.declared.timeline.FenceState.{FenceState}
use Rattle.drm_state.specs.declared.journal.JobRecord.{JobRecord}
use Rattle.drm_state.specs.Journal.{is_complete}
use Rattle.drm_state.specs.Outcomes.{final_outcome}

-- the fence of a job
abbrev pub fence_state_of : JobRecord → FenceState
fence_state_of r = record { phase = r.phase; ran = r.ran }

-- how a job ends, where the ring is done with it
abbrev pub ending : JobRecord → Option Outcome
ending r = if is_complete r then Some (final_outcome r) else None
