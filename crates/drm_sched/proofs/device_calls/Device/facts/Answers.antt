use Rattle.std.proofs.Common.{◌≡◌, None, subst}
use Rattle.drm_types.specs.Limits.{spec_fault}
use Rattle.drm_sched.specs.Marks.{MarkedDevice}
use Rattle.drm_sched.proofs.device_calls.Device.facts.Goals as goal

pub returns-clause-limits : goal.returns-clause-limits
returns-clause-limits c = subst (λ (d : MarkedDevice). spec_fault d.state.spec ≡ None) c.self.view_is c.self.invariant.0.table.limits
