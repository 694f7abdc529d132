use Rattle.std.proofs.Common.{rules}
use Rattle.drm_packet.proofs.Packet.writes.Goals as goal

pub returns-in-Fill : goal.returns-in-Fill
returns-in-Fill c = search rules
