use Rattle.std.proofs.Common.{◌≡◌, ◌<◌, ◌∙◌, length, sym, subst}
use Rattle.drm_state.specs.Ring.{pending_of}
use Rattle.drm_table.proofs.TableFacts.{pending_told, row_there}
use Rattle.drm_sched.specs.Marks.{MarkedDevice}
use Rattle.drm_sched.proofs.Boxed.{view_read, whole_read}
use Rattle.drm_sched.proofs.device_calls.Device.pending.Goals as goal

pub pending-requires : goal.pending-requires
pending-requires c =
    let there = subst (λ (d : MarkedDevice). c.args.ring < length d.state.spec.rings) (sym (view_read c.deref.ensures c.self.view_is)) c.requires.there in
    row_there c.deref.result.now.table c.args.ring (whole_read c.deref.ensures c.self.invariant.0).table there

pub returns : goal.returns
returns c =
    subst (λ (d : MarkedDevice). c.pending.result.now.items ≡ pending_of d.state c.args.ring) (view_read c.deref.ensures c.self.view_is)
    (c.pending.ensures ∙ pending_told c.deref.result.now.table.rings c.args.ring)
