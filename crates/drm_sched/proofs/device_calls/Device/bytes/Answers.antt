use Rattle.std.proofs.Common.{rules, ◌≡◌, ◌<◌, length, false, sym, subst}
use Rattle.drm_sched.specs.Marks.{MarkedDevice, is_out}
use Rattle.drm_sched.proofs.MarkedOut.{is_inside}
use Rattle.drm_sched.proofs.Boxed.{view_read, whole_read}
use Rattle.drm_sched.proofs.device_calls.Device.bytes.Goals as goal

pub bytes-requires : goal.bytes-requires
bytes-requires c =
    is_inside c.deref.result.now c.args.buffer (whole_read c.deref.ensures c.self.invariant.0)
    (subst (λ (d : MarkedDevice). c.args.buffer < length d.state.memory) (sym (view_read c.deref.ensures c.self.view_is)) c.requires.there)
    (subst (λ (d : MarkedDevice). is_out d c.args.buffer ≡ false) (sym (view_read c.deref.ensures c.self.view_is)) c.requires.inside)

pub returns : goal.returns
returns c = search rules
