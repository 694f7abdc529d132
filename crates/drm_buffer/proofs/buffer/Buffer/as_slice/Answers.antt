use Rattle.std.proofs.Common.{rules}
use Rattle.drm_buffer.proofs.buffer.Buffer.as_slice.Goals as goal

pub returns : goal.returns
returns c = search rules
