use Rattle.std.proofs.Common.{rules}
use Rattle.drm_packet.proofs.Packet.asks_out.Goals as goal

pub returns-else-is_out : goal.returns-else-is_out
returns-else-is_out c = search rules
