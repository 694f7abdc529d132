use Rattle.std.proofs.Common.{◌≤◌, length, subst}
use Rattle.drm_sched.specs.Calls.{FinishIs}
use Rattle.drm_sched.specs.Marks.{MarkedDevice, IsSteadyMarked}
use Rattle.drm_sched.specs.Parts.{marked_of}
use Rattle.drm_sched.proofs.Boxed.{device_read}
use Rattle.drm_sched.proofs.Calls.{after_finish, finish_keeps, stays_lawful}
use Rattle.drm_sched.proofs.device_calls.Device.finish.Goals as goal

pub returns-clause-call : goal.returns-clause-call
returns-clause-call c = device_read (λ d. FinishIs c.args.ring c.args.now c.finish.result d (marked_of c.finish.new.self)) c.deref_mut.ensures.value c.self.view_is c.finish.ensures.call

pub returns-clause-sound : goal.returns-clause-sound
returns-clause-sound c =
    let steady = subst IsSteadyMarked c.self.view_is c.self.invariant.0.steady in
    stays_lawful (after_finish c.args.self.now (marked_of c.finish.new.self) c.args.ring c.args.now c.finish.result steady.state c.requires.there (returns-clause-call c))

pub returns-clause-keeps : goal.returns-clause-keeps
returns-clause-keeps c =
    let steady = subst IsSteadyMarked c.self.view_is c.self.invariant.0.steady in
    let count = subst (λ (d : MarkedDevice). length d.state.journal ≤ d.state.spec.max_jobs) c.self.view_is c.self.invariant.0.table.count in
    finish_keeps c.args.self.now (marked_of c.finish.new.self) c.args.ring c.args.now c.finish.result steady.state count c.requires.there (returns-clause-call c)
