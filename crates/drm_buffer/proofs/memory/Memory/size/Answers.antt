use Rattle.std.proofs.Common.{rules}
use Rattle.drm_buffer.proofs.memory.Memory.size.Goals as goal

pub returns : goal.returns
returns c = search rules
