use Rattle.std.proofs.Common.{rules, ◌≡◌, All, None, ap, sym, subst}
use Rattle.ww_lock.specs.Parts.{IsWhole}
use Rattle.drm_gpu.specs.Passes.{PassState}
use Rattle.drm_types.specs.declared.spec.DeviceSpec.{DeviceSpec}
use Rattle.drm_types.specs.Limits.{spec_fault}
use Rattle.drm_job.specs.Fault.{IsJob}
use Rattle.std.proofs.lemmas.Result.{IfErr-weaker}
use Rattle.drm_workers.specs.Faults.{IsFaultOf, IsOfWorkers}
use Rattle.drm_workers.proofs.Described.{fault_of_workers}
use Rattle.drm_workers.proofs.Hiring.{first_part}
use Rattle.drm_workers.proofs.drive.run_all.Goals as goal

pub drive-requires-clause-jobs : goal.drive-requires-clause-jobs
drive-requires-clause-jobs g c κs within = (subst (λ (s : DeviceSpec). All (IsJob s) c.args.jobs.items) (sym c.in-Ok.ensures.gpu.0) c.requires.jobs.0, sym c.len.ensures)

pub drive-requires-clause-described : goal.drive-requires-clause-described
drive-requires-clause-described g c κs within = subst (λ (s : DeviceSpec). spec_fault s ≡ None) (sym c.in-Ok.ensures.gpu.0) c.in-Ok.ensures.gpu.1

pub returns-clause-fault : goal.returns-clause-fault
returns-clause-fault g c =
    IfErr-weaker c.drive.result IsOfWorkers (IsFaultOf c.args.spec) (fault_of_workers c.args.spec c.in-Ok.ensures.gpu.1) c.drive.ensures.fault

pub returns-in-Err-Spec-clause-fault : goal.returns-in-Err-Spec-clause-fault
returns-in-Err-Spec-clause-fault g c = search rules

pub drive-requires-clause-pass : goal.drive-requires-clause-pass
drive-requires-clause-pass g c κs within =
    let first = c.in-Ok.ensures.pass in
    (ap (λ (p : PassState). p.gpu) first, ap (λ (p : PassState). p.calls) first, subst (λ (p : PassState). IsWhole p.part) (sym first) first_part)
