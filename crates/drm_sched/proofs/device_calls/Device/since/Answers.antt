use Rattle.std.proofs.Common.{◌≡◌, ◌<◌, ◌∙◌, length, sym, ap, subst, slice_get}
use Rattle.std.specs.Option.{option_map_or}
use Rattle.std.specs.Prelude.{IfSome}
use Rattle.drm_lists.proofs.Places.{to_map}
use Rattle.drm_ring.specs.RingRows.{RingRow}
use Rattle.drm_state.specs.State.{RingState}
use Rattle.drm_state.specs.Rows.{ring_state_of}
use Rattle.drm_table.proofs.TableFacts.{row_found, row_there}
use Rattle.drm_sched.specs.Marks.{MarkedDevice}
use Rattle.drm_sched.proofs.Boxed.{view_read, whole_read}
use Rattle.drm_sched.proofs.device_calls.Device.since.Goals as goal

pub since-requires : goal.since-requires
since-requires c =
    let there = subst (λ (d : MarkedDevice). c.args.ring < length d.state.spec.rings) (sym (view_read c.deref.ensures c.self.view_is)) c.requires.there in
    row_there c.deref.result.now.table c.args.ring (whole_read c.deref.ensures c.self.invariant.0).table there

pub returns : goal.returns
returns c =
    let t = c.deref.result.now.table in
    let there = subst (λ (d : MarkedDevice). c.args.ring < length d.state.spec.rings) (sym (view_read c.deref.ensures c.self.view_is)) c.requires.there in
    let row = row_found t c.args.ring (whole_read c.deref.ensures c.self.invariant.0).table there in
    let since = subst (λ o. IfSome o (λ (r : RingRow). c.since.result ≡ r.state.since)) row.1 c.since.ensures in
    subst (λ (d : MarkedDevice). c.since.result ≡ option_map_or (λ (r : RingState). r.since) (slice_get d.state.rings c.args.ring) 0)
    (view_read c.deref.ensures c.self.view_is)
    (since ∙ sym (ap (λ o. option_map_or (λ (r : RingState). r.since) o 0) (to_map ring_state_of t.rings c.args.ring row.0 row.1)))
