use Rattle.std.proofs.Common.{◌<◌, subst, length}
use Rattle.gpu_bench.proofs.parts.tell.Goals as goal

pub bytes_of-requires : goal.bytes_of-requires
bytes_of-requires c = λ b l. let e = c.in-Ok.ensures.closed in e.inside b (subst (λ s. b < length s.buffers) e.spec.1 l)
