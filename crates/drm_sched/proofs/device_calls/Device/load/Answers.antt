use Rattle.std.proofs.Common.{◌≡◌, ◌<◌, length, sym, subst}
use Rattle.drm_state.specs.Arming.{load}
use Rattle.drm_sched.specs.Marks.{MarkedDevice}
use Rattle.drm_sched.proofs.Boxed.{view_read, whole_read}
use Rattle.drm_sched.proofs.device_calls.Device.load.Goals as goal

pub load-requires : goal.load-requires
load-requires c = record {
  there = subst (λ (d : MarkedDevice). c.args.ring < length d.state.spec.rings) (sym (view_read c.deref.ensures c.self.view_is)) c.requires.there;
  whole = (whole_read c.deref.ensures c.self.invariant.0).table;
}

pub returns : goal.returns
returns c = subst (λ (d : MarkedDevice). c.load.result ≡ load d.state.journal c.args.ring) (view_read c.deref.ensures c.self.view_is) c.load.ensures
