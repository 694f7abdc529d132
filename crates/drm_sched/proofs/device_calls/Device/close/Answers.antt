use Rattle.std.proofs.Common.{rules, ◌≡◌, ◌∙◌, ◌<◌, length, false, None, ap, sym, subst}
use Rattle.drm_types.specs.Limits.{spec_fault}
use Rattle.drm_sched.specs.Marks.{MarkedDevice, is_out}
use Rattle.drm_sched.proofs.MarkedOut.{is_inside, says_out}
use Rattle.drm_sched.proofs.Boxed.{view_read, whole_read}
use Rattle.drm_sched.proofs.device_calls.Device.close.Goals as goal

pub returns-clause-out : goal.returns-clause-out
returns-clause-out c b there =
    says_out c.into_inner-table.result b (whole_read c.into_inner-table.ensures c.self.invariant.0) (subst (λ (d : MarkedDevice). b < length d.state.memory) (sym (view_read c.into_inner-table.ensures c.self.view_is)) there)
    ∙ ap (λ (d : MarkedDevice). is_out d b) (view_read c.into_inner-table.ensures c.self.view_is)

pub returns-clause-limits : goal.returns-clause-limits
returns-clause-limits c = subst (λ (d : MarkedDevice). spec_fault d.state.spec ≡ None) (view_read c.into_inner-table.ensures c.self.view_is) (whole_read c.into_inner-table.ensures c.self.invariant.0).table.limits

pub returns-clause-inside : goal.returns-clause-inside
returns-clause-inside c b there inside =
    is_inside c.into_inner-table.result b (whole_read c.into_inner-table.ensures c.self.invariant.0)
    (subst (λ (d : MarkedDevice). b < length d.state.memory) (sym (view_read c.into_inner-table.ensures c.self.view_is)) there)
    (subst (λ (d : MarkedDevice). is_out d b ≡ false) (sym (view_read c.into_inner-table.ensures c.self.view_is)) inside)

pub returns-clause-left : goal.returns-clause-left
returns-clause-left c = search rules
