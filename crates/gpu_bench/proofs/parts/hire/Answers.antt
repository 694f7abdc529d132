use Rattle.std.proofs.Common.{sym, subst, ap, ◌∙◌, All}
use Rattle.std.proofs.lemmas.List.Elements.{All-push, All-rest}
use Rattle.gpu_bench.specs.Devices.{IsBatch, WorksOn}
use Rattle.gpu_bench.proofs.parts.hire.Goals as goal

pub loop-batch-preserved : goal.loop-batch-preserved
loop-batch-preserved c = let g = c.args.gpu.now in let v = c.loop-batch.invariant in (
  subst (λ ws. All (WorksOn g) ws) (sym c.in_ok-push.ensures.items) (All-push (WorksOn g) c.loop-batch.workers.items _ v.0 c.worker_of.ensures),
  ap (λ p. p.gpu) c.split-kept.ensures.first ∙ v.1,
  All-rest (IsBatch g.spec) _ _ _ c.in-Some.ensures.steps.0 v.2,
)
