use Rattle.std.proofs.Common.{◌≡◌, ◌<◌, length, sym, subst}
use Rattle.drm_state.specs.Ring.{current_of}
use Rattle.drm_sched.specs.Marks.{MarkedDevice}
use Rattle.drm_sched.proofs.Boxed.{view_read, whole_read}
use Rattle.drm_sched.proofs.device_calls.Device.current.Goals as goal

pub current-requires-clause-there : goal.current-requires-clause-there
current-requires-clause-there c =
    subst (λ (d : MarkedDevice). c.args.ring < length d.state.spec.rings) (sym (view_read c.deref.ensures c.self.view_is)) c.requires.there

pub current-requires-clause-whole : goal.current-requires-clause-whole
current-requires-clause-whole c = (whole_read c.deref.ensures c.self.invariant.0).table

pub returns : goal.returns
returns c =
    subst (λ (d : MarkedDevice). c.current.result ≡ current_of d.state c.args.ring) (view_read c.deref.ensures c.self.view_is) c.current.ensures
