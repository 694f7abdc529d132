use Rattle.std.proofs.Common.{rules}
use Rattle.drm_packet.proofs.buffers.Buffers.as_slice.Goals as goal

pub returns : goal.returns
returns c = search rules
