use Rattle.std.proofs.Common.{sym, subst, All}
use Rattle.std.proofs.lemmas.List.Elements.{All-push}
use Rattle.gpu_bench.specs.Devices.{IsBatch}
use Rattle.gpu_bench.proofs.parts.batches.Goals as goal

pub loop-ring-preserved : goal.loop-ring-preserved
loop-ring-preserved c = subst (λ bs. All (IsBatch c.args.spec.now) bs) (sym c.in_ok-push.ensures.items) (All-push (IsBatch c.args.spec.now) c.loop-ring.batches.items _ c.loop-ring.invariant c.in_ok-batch_of.ensures)
