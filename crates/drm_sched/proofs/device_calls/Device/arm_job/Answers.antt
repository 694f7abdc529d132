use Rattle.drm_sched.specs.Calls.{ArmIs}
use Rattle.drm_sched.specs.Parts.{marked_of}
use Rattle.drm_sched.proofs.Boxed.{device_read}
use Rattle.drm_sched.proofs.Calls.{armed_keeps, arm_stays_lawful}
use Rattle.drm_sched.proofs.device_calls.Device.arm_job.Goals as goal

pub returns-clause-call : goal.returns-clause-call
returns-clause-call c = device_read (λ d. ArmIs c.args.job c.arm.result d (marked_of c.arm.new.self)) c.deref_mut.ensures.value c.self.view_is c.arm.ensures.call

pub returns-clause-sound : goal.returns-clause-sound
returns-clause-sound c =
    arm_stays_lawful c.args.self.now (marked_of c.arm.new.self) c.args.job c.arm.result c.arm.ensures.whole.steady.state.lawful (returns-clause-call c)

pub returns-clause-keeps : goal.returns-clause-keeps
returns-clause-keeps c = armed_keeps c.args.self.now (marked_of c.arm.new.self) c.args.job c.arm.result (returns-clause-call c)
