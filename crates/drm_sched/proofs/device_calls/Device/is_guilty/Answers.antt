use Rattle.std.proofs.Common.{◌≡◌, ◌<◌, length, sym, subst}
use Rattle.drm_state.specs.Ring.{is_guilty}
use Rattle.drm_table.proofs.Queues.{guilty_is}
use Rattle.drm_table.proofs.TableFacts.{entity_row_there}
use Rattle.drm_sched.specs.Marks.{MarkedDevice}
use Rattle.drm_sched.proofs.Boxed.{view_read, whole_read}
use Rattle.drm_sched.proofs.device_calls.Device.is_guilty.Goals as goal

pub is_guilty-requires : goal.is_guilty-requires
is_guilty-requires c =
    let there = subst (λ (d : MarkedDevice). c.args.entity < length d.state.spec.entities) (sym (view_read c.deref.ensures c.self.view_is)) c.requires.there in
    entity_row_there c.deref.result.now.table c.args.entity (whole_read c.deref.ensures c.self.invariant.0).table there

pub returns : goal.returns
returns c =
    let there = subst (λ (d : MarkedDevice). c.args.entity < length d.state.spec.entities) (sym (view_read c.deref.ensures c.self.view_is)) c.requires.there in
    let row = entity_row_there c.deref.result.now.table c.args.entity (whole_read c.deref.ensures c.self.invariant.0).table there in
    subst (λ (d : MarkedDevice). c.is_guilty.result ≡ is_guilty d.state c.args.entity) (view_read c.deref.ensures c.self.view_is)
    (guilty_is c.deref.result.now.table.entities c.args.entity c.is_guilty.result row c.is_guilty.ensures)
