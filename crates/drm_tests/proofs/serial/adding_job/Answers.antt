use Rattle.std.proofs.Common.{refl, subst, sym}
use Rattle.drm_job.specs.Fault.{IsJob}
use Rattle.drm_tests.proofs.serial.adding_job.Goals as goal

pub returns-in-Ok : goal.returns-in-Ok
returns-in-Ok c =
    c.jobs_run_in_their_device.ensures c.args.spec.now c.in-Ok.job c.args.spec.now.buffers (subst (IsJob c.args.spec.now) (sym c.in-Ok.ensures.0) c.in-Ok.ensures.1) refl
