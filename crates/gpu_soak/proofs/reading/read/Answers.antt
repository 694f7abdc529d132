use Rattle.std.proofs.Common.{rules}
use Rattle.gpu_soak.proofs.reading.read.Goals as goal

pub begin_read-requires-clause-buffer : goal.begin_read-requires-clause-buffer
begin_read-requires-clause-buffer g c = search rules
