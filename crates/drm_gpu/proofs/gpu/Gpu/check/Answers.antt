use Rattle.std.proofs.Common.{◌≡◌, ◌∙◌, sym, subst, refl, Some}
use Rattle.std.specs.Prelude.{MatchResult}
use Rattle.drm_types.specs.declared.spec.DeviceSpec.{DeviceSpec}
use Rattle.drm_job.specs.Fault.{IsJob, job_fault}
use Rattle.drm_state.specs.Keeps.{Keeps}
use Rattle.drm_sched.specs.Marks.{MarkedDevice}
use Rattle.drm_gpu.specs.Answers.{ChangesNothing}
use Rattle.drm_gpu.specs.Passes.{GrowsTo}
use Rattle.drm_gpu.proofs.Called.{called}
use Rattle.drm_gpu.proofs.Grown.{grows_itself, keeps_itself}
use Rattle.drm_gpu.proofs.Chains.{pass_left}
use Rattle.drm_gpu.proofs.gpu.Gpu.check.Goals as goal

pub leave-requires-clause-onward : goal.leave-requires-clause-onward
leave-requires-clause-onward g c = subst (λ x. GrowsTo x c.enter-device.result) (sym c.of-found.ensures) (grows_itself c.enter-device.result)

pub leave-requires-clause-keeps : goal.leave-requires-clause-keeps
leave-requires-clause-keeps g c =
    subst (λ (x : MarkedDevice). Keeps x.state c.enter-device.result.state) (sym c.of-found.ensures) (keeps_itself c.enter-device.result)

pub returns : goal.returns
returns g c =
    let d = c.enter-device.result in
    let draft = c.args.draft in
    record {
      checked = subst (λ (s : DeviceSpec). MatchResult c.check-checked.result (λ job. (job ≡ draft) × IsJob s draft) (λ back. (back.0 ≡ draft) × (job_fault s draft ≡ Some back.1)))
          (c.spec.ensures.value ∙ c.enter-device.ensures.entered.knows.described) c.check-checked.ensures;
      call = called ChangesNothing c.args.self.now c.args.pass.now c.pass.inside.seat.place.table_id c.pass.inside.seat c.enter-device.new.seat c.leave.new.seat d c.of-found.result.value d
          c.pass.view_is c.requires.pass c.enter-device.ensures.found c.enter-device.ensures.same c.of-found.ensures (grows_itself d) c.leave.ensures.seat c.leave.ensures.call
          refl;
    }

pub invariant_of-pass : goal.invariant_of-pass
invariant_of-pass g c =
    pass_left c.args.self.now _ c.pass.inside.seat c.enter-device.new.seat c.leave.new.seat c.pass.invariant c.enter-device.ensures.holds c.leave.ensures.holds c.leave.ensures.seat.0
