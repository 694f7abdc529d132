use Rattle.std.proofs.Common.{◌≡◌, subst}
use Rattle.drm_state.specs.Ring.{is_stopped}
use Rattle.drm_sched.specs.Marks.{MarkedDevice}
use Rattle.drm_sched.proofs.Boxed.{view_read}
use Rattle.drm_sched.proofs.device_calls.Device.is_stopped.Goals as goal

pub returns : goal.returns
returns c =
    subst (λ (d : MarkedDevice). c.is_stopped.result ≡ is_stopped d.state c.args.entity) (view_read c.deref.ensures c.self.view_is) c.is_stopped.ensures
