use Rattle.std.proofs.Common.{◌<◌, subst, length}
use Rattle.gpu_soak.proofs.end.Goals as goal

pub judge-requires-clause-jobs : goal.judge-requires-clause-jobs
judge-requires-clause-jobs c = c.in-Ok.ensures.closed.jobs

pub judge-requires-clause-inside : goal.judge-requires-clause-inside
judge-requires-clause-inside c = λ b l. let e = c.in-Ok.ensures.closed in e.inside b (subst (λ s. b < length s.buffers) e.spec.1 l)
