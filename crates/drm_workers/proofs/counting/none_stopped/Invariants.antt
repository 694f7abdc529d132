use Rattle.std.proofs.Common.{◌<◌, ◌≢◌, ℕ, slice_index_or}
use Rattle.drm_types.specs.declared.outcome.Outcome.TheVariants.{Stopped}
use Rattle.drm_fence.specs.declared.phase.Phase.TheVariants.{Ended}
use Rattle.drm_state.specs.declared.journal.JobRecord.{JobRecord}
use Rattle.drm_workers.proofs.counting.none_stopped.Given as goal

-- none so far was stopped
abbrev pub invariant-loop-record : goal.invariant-loop-record
invariant-loop-record l = (k : ℕ) (d : JobRecord) → k < l.record-index → (slice_index_or l.fn.records k d).phase ≢ Ended Stopped
