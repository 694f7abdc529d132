use Rattle.std.proofs.Common.{subst}
use Rattle.drm_sched.specs.Calls.{BeginIs}
use Rattle.drm_sched.specs.Marks.{IsSteadyMarked}
use Rattle.drm_sched.specs.Parts.{marked_of}
use Rattle.drm_sched.proofs.Boxed.{device_read}
use Rattle.drm_sched.proofs.MarkedTasks.{begin_keeps_tasks, begin_state, begin_back}
use Rattle.drm_sched.proofs.device_calls.Device.begin_unblocked_step.Goals as goal

pub returns-clause-call : goal.returns-clause-call
returns-clause-call c = device_read (λ d. BeginIs c.args.ring c.begin_unblocked_step.result d (marked_of c.begin_unblocked_step.new.self)) c.deref_mut.ensures.value c.self.view_is c.begin_unblocked_step.ensures.call

pub returns-clause-state : goal.returns-clause-state
returns-clause-state c = begin_state c.args.self.now (marked_of c.begin_unblocked_step.new.self) c.args.ring c.begin_unblocked_step.result (returns-clause-call c)

pub returns-clause-back : goal.returns-clause-back
returns-clause-back c =
    let steady = subst IsSteadyMarked c.self.view_is c.self.invariant.0.steady in
    begin_back c.args.self.now (marked_of c.begin_unblocked_step.new.self) c.args.ring c.begin_unblocked_step.result steady c.requires.there (returns-clause-call c)

pub returns-clause-tasks : goal.returns-clause-tasks
returns-clause-tasks c = begin_keeps_tasks c.args.self.now (marked_of c.begin_unblocked_step.new.self) c.args.ring c.begin_unblocked_step.result (returns-clause-call c)
