use Rattle.std.proofs.Common.{◌≡◌, ◌∙◌, length, sym, subst}
use Rattle.std.specs.Prelude.{filter}
use Rattle.drm_fence.specs.Phases.{has_ended}
use Rattle.drm_state.specs.declared.journal.JobRecord.{JobRecord}
use Rattle.drm_sched.specs.Marks.{MarkedDevice}
use Rattle.drm_state.proofs.LoadsKept.{ended_is}
use Rattle.drm_sched.proofs.Boxed.{view_read, whole_read}
use Rattle.drm_sched.proofs.device_calls.Device.ended.Goals as goal

pub returns : goal.returns
returns c =
    let t = c.deref.result.now.table in
    subst (λ (d : MarkedDevice). t.loads.ended ≡ length (filter (λ (r : JobRecord). has_ended r.phase) d.state.journal)) (view_read c.deref.ensures c.self.view_is)
    ((whole_read c.deref.ensures c.self.invariant.0).table.loads.ended ∙ sym (ended_is t.journal.items))
