use Rattle.std.proofs.Common.{subst}
use Rattle.drm_sched.specs.Begun.{HasReported}
use Rattle.drm_sched.specs.Marks.{IsSteadyMarked}
use Rattle.drm_sched.specs.Parts.{marked_of}
use Rattle.drm_sched.proofs.Boxed.{device_read}
use Rattle.drm_sched.proofs.Calls.{after_report, report_keeps, stays_lawful}
use Rattle.drm_sched.proofs.MarkedTasks.{report_keeps_tasks}
use Rattle.drm_sched.proofs.device_calls.Device.report.Goals as goal

pub returns-clause-call : goal.returns-clause-call
returns-clause-call c = device_read (λ d. HasReported d c.args.ring c.report.result (marked_of c.report.new.self)) c.deref_mut.ensures.value c.self.view_is c.report.ensures.call

pub returns-clause-tasks : goal.returns-clause-tasks
returns-clause-tasks c = report_keeps_tasks c.args.self.now (marked_of c.report.new.self) c.args.ring c.report.result (returns-clause-call c)

pub returns-clause-sound : goal.returns-clause-sound
returns-clause-sound c =
    let steady = subst IsSteadyMarked c.self.view_is c.self.invariant.0.steady in
    stays_lawful (after_report c.args.self.now (marked_of c.report.new.self) c.args.ring c.report.result steady (returns-clause-call c))

pub returns-clause-keeps : goal.returns-clause-keeps
returns-clause-keeps c =
    let steady = subst IsSteadyMarked c.self.view_is c.self.invariant.0.steady in
    report_keeps c.args.self.now (marked_of c.report.new.self) c.args.ring c.report.result steady (returns-clause-call c)
