use Rattle.std.proofs.Common.{◌<◌, ℕ, slice_index_or, IsTrue}
use Rattle.drm_fence.specs.Phases.{has_ended}
use Rattle.drm_state.specs.declared.journal.JobRecord.{JobRecord}
use Rattle.drm_workers.proofs.counting.have_ended.Given as goal

-- those so far have ended
abbrev pub invariant-loop-record : goal.invariant-loop-record
invariant-loop-record l = (k : ℕ) (d : JobRecord) → k < l.record-index → IsTrue (has_ended (slice_index_or l.fn.records k d).phase)
