use Rattle.std.proofs.Common.{◌≡◌, ◌∙◌, ap, sym, subst, All}
use Rattle.std.proofs.lemmas.List.Elements.{All-push}
use Rattle.drm_gpu.specs.Passes.{GpuState, PassState}
use Rattle.drm_gpu_tests.specs.declared.threads.Worker.{Worker}
use Rattle.drm_gpu_tests.proofs.threads.hire.Goals as goal

-- the worker has a pass to this device
abbrev IsOf : GpuState → Worker → Type 0
IsOf gpu worker = worker.pass.gpu ≡ gpu

pub loop-number-preserved : goal.loop-number-preserved
loop-number-preserved c =
    let g = c.args.gpu.now in
    let v = c.loop-number.invariant in
    let given : IsOf g c.hired.result = ap (λ (p : PassState). p.gpu) (c.hired.ensures ∙ c.split-kept.ensures.second) ∙ v.1 in (
      subst (λ ws. All (IsOf g) ws) (sym c.in_ok-push.ensures.items) (All-push (IsOf g) c.loop-number.workers.items _ v.0 given),
      ap (λ (p : PassState). p.gpu) c.split-kept.ensures.first ∙ v.1,
    )
