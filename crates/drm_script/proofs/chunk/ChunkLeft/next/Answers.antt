use Rattle.std.proofs.Common.{rules}
use Rattle.drm_script.proofs.chunk.ChunkLeft.next.Goals as goal

pub returns-clause-some : goal.returns-clause-some
returns-clause-some c = search rules
