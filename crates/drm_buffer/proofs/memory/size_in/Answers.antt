use Rattle.std.proofs.Common.{rules}
use Rattle.drm_buffer.proofs.memory.size_in.Goals as goal

pub returns-in-None : goal.returns-in-None
returns-in-None c = search rules
