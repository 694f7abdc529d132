use Rattle.std.proofs.Common.{subst}
use Rattle.drm_sched.specs.Calls.{CancelIs}
use Rattle.drm_sched.specs.Marks.{IsSteadyMarked}
use Rattle.drm_sched.specs.Parts.{marked_of}
use Rattle.drm_sched.proofs.Boxed.{device_read}
use Rattle.drm_sched.proofs.Calls.{after_cancel, cancel_keeps, stays_lawful}
use Rattle.drm_sched.proofs.device_calls.Device.cancel.Goals as goal

pub returns-clause-call : goal.returns-clause-call
returns-clause-call c = device_read (λ d. CancelIs c.args.entity c.cancel.result d (marked_of c.cancel.new.self)) c.deref_mut.ensures.value c.self.view_is c.cancel.ensures.call

pub returns-clause-sound : goal.returns-clause-sound
returns-clause-sound c =
    let steady = subst IsSteadyMarked c.self.view_is c.self.invariant.0.steady in
    stays_lawful (after_cancel c.args.self.now (marked_of c.cancel.new.self) c.args.entity c.cancel.result steady.state (returns-clause-call c))

pub returns-clause-keeps : goal.returns-clause-keeps
returns-clause-keeps c =
    let steady = subst IsSteadyMarked c.self.view_is c.self.invariant.0.steady in
    cancel_keeps c.args.self.now (marked_of c.cancel.new.self) c.args.entity c.cancel.result steady.state (returns-clause-call c)
