use Rattle.std.proofs.Common.{sym, subst, All}
use Rattle.std.proofs.lemmas.List.Elements.{All-push}
use Rattle.gpu_bench.specs.Devices.{IsJobOf}
use Rattle.gpu_bench.proofs.devices.jobs_of.Goals as goal

pub loop-preserved : goal.loop-preserved
loop-preserved c = subst (λ js. All (IsJobOf c.args.spec.now) js) (sym c.in_ok-push.ensures.items) (All-push (IsJobOf c.args.spec.now) c.loop.jobs.items _ c.loop.invariant c.in_ok-job_of.ensures)
