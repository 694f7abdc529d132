use Rattle.std.proofs.Common.{ap, ◌∙◌}
use Rattle.drm_sched.specs.Marks.{MarkedDevice}
use Rattle.drm_sched.proofs.Boxed.{view_read}
use Rattle.drm_sched.proofs.device_calls.Device.records.Goals as goal

pub returns : goal.returns
returns c = c.as_slice.ensures.value ∙ ap (λ (d : MarkedDevice). d.state.journal) (view_read c.deref.ensures c.self.view_is)
