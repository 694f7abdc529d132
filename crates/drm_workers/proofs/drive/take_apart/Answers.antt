use Rattle.std.proofs.Common.{ap, ◌∙◌}
use Rattle.drm_types.specs.Limits.{spec_fault}
use Rattle.drm_gpu.specs.Passes.{GpuState}
use Rattle.drm_workers.proofs.drive.take_apart.Goals as goal

pub tell-requires : goal.tell-requires
tell-requires c = record {
  limits = ap spec_fault (c.in-Ok.ensures.closed.spec.1 ∙ ap (λ (it : GpuState). it.spec) c.requires.pass) ∙ c.requires.described;
}

pub returns-in-Ok-tell-clause-report : goal.returns-in-Ok-tell-clause-report
returns-in-Ok-tell-clause-report c = λ list n many has_run.
    c.in-Ok-tell.ensures.report c.args.gpu.spec list n many (has_run c.in-Ok.closed c.in-Ok.ensures.closed)
