use Rattle.std.proofs.Common.{◌≡◌}
use Rattle.std.proofs.lemmas.List.Elements.{All-rest}
use Rattle.gpu_soak.proofs.workers.all_together.Goals as goal

pub loop-worker-preserved : goal.loop-worker-preserved
loop-worker-preserved c = (c.together-all.ensures, All-rest (λ w. w.pass.gpu ≡ c.args.gpu.now) _ _ _ c.in-Some.ensures.steps.0 c.loop-worker.invariant.1)
