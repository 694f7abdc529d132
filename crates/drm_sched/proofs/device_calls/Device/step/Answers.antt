use Rattle.std.proofs.Common.{subst}
use Rattle.drm_sched.specs.Calls.{StepIs}
use Rattle.drm_sched.specs.Marks.{IsSteadyMarked}
use Rattle.drm_sched.specs.Parts.{marked_of}
use Rattle.drm_sched.proofs.Boxed.{device_read}
use Rattle.drm_sched.proofs.Calls.{after_step, step_keeps, stays_lawful}
use Rattle.drm_sched.proofs.device_calls.Device.step.Goals as goal

pub returns-clause-call : goal.returns-clause-call
returns-clause-call c = device_read (λ d. StepIs c.args.ring c.step.result d (marked_of c.step.new.self)) c.deref_mut.ensures.value c.self.view_is c.step.ensures.call

pub returns-clause-sound : goal.returns-clause-sound
returns-clause-sound c =
    let steady = subst IsSteadyMarked c.self.view_is c.self.invariant.0.steady in
    stays_lawful (after_step c.args.self.now (marked_of c.step.new.self) c.args.ring c.step.result steady.state c.requires.there (returns-clause-call c))

pub returns-clause-keeps : goal.returns-clause-keeps
returns-clause-keeps c =
    let steady = subst IsSteadyMarked c.self.view_is c.self.invariant.0.steady in
    step_keeps c.args.self.now (marked_of c.step.new.self) c.args.ring c.step.result steady.state c.requires.there (returns-clause-call c)
