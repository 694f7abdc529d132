use Rattle.std.proofs.lemmas.List.Elements.{All-rest}
use Rattle.gpu_bench.specs.Devices.{IsJobOf}
use Rattle.gpu_bench.proofs.workers.submit_all.Goals as goal

pub loop-job-preserved : goal.loop-job-preserved
loop-job-preserved g c = (c.submit_and_run-back.ensures, c.loop-job.invariant.1, All-rest (IsJobOf c.args.gpu.now.spec) _ _ _ c.in-Some.ensures.steps.0 c.loop-job.invariant.2)
