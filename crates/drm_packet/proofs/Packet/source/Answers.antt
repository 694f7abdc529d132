use Rattle.std.proofs.Common.{rules}
use Rattle.drm_packet.proofs.Packet.source.Goals as goal

pub returns-then-eq : goal.returns-then-eq
returns-then-eq c = search rules
