use Rattle.std.proofs.Common.{◌<◌, ◌∙◌, length, ap, sym, subst}
use Rattle.drm_sched.specs.Marks.{MarkedDevice, is_out}
use Rattle.drm_sched.proofs.MarkedOut.{says_out}
use Rattle.drm_sched.proofs.Boxed.{view_read, whole_read}
use Rattle.drm_sched.proofs.device_calls.Device.is_buffer_out.Goals as goal

pub returns : goal.returns
returns c =
    let there = subst (λ (d : MarkedDevice). c.args.buffer < length d.state.memory) (sym (view_read c.deref.ensures c.self.view_is)) c.requires.there in
    c.is_out.ensures ∙ (says_out c.deref.result.now c.args.buffer (whole_read c.deref.ensures c.self.invariant.0) there ∙ ap (λ (d : MarkedDevice). is_out d c.args.buffer) (view_read c.deref.ensures c.self.view_is))
