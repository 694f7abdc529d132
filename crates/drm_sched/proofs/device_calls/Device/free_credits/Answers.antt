use Rattle.std.proofs.Common.{◌≡◌, ◌<◌, ◌∙◌, length, sym, subst}
use Rattle.drm_state.specs.Ring.{free_credits}
use Rattle.drm_table.proofs.RowsKept.{free_told}
use Rattle.drm_table.proofs.TableFacts.{row_there}
use Rattle.drm_sched.specs.Marks.{MarkedDevice}
use Rattle.drm_sched.proofs.Boxed.{view_read, whole_read}
use Rattle.drm_sched.proofs.device_calls.Device.free_credits.Goals as goal

pub credits-requires : goal.credits-requires
credits-requires c =
    let there = subst (λ (d : MarkedDevice). c.args.ring < length d.state.spec.rings) (sym (view_read c.deref.ensures c.self.view_is)) c.requires.there in
    row_there c.deref.result.now.table c.args.ring (whole_read c.deref.ensures c.self.invariant.0).table there

pub returns : goal.returns
returns c =
    let t = c.deref.result.now.table in
    let there = subst (λ (d : MarkedDevice). c.args.ring < length d.state.spec.rings) (sym (view_read c.deref.ensures c.self.view_is)) c.requires.there in
    subst (λ (d : MarkedDevice). c.free.result ≡ free_credits d.state c.args.ring) (view_read c.deref.ensures c.self.view_is)
    (c.free.ensures ∙ free_told t c.args.ring c.credits.result.now (whole_read c.deref.ensures c.self.invariant.0).table there c.credits.ensures)
