use Rattle.std.proofs.Common.{◌≡◌, map, subst}
use Rattle.drm_sched.specs.Marks.{MarkedDevice}
use Rattle.drm_state.specs.Records.{fence_state_of}
use Rattle.drm_sched.proofs.Boxed.{view_read, whole_read}
use Rattle.drm_sched.proofs.device_calls.Device.fences.Goals as goal

pub returns : goal.returns
returns c =
    subst (λ (d : MarkedDevice). c.deref.result.now.table.fences.list ≡ map fence_state_of d.state.journal) (view_read c.deref.ensures c.self.view_is) (whole_read c.deref.ensures c.self.invariant.0).table.fences
