use Rattle.std.proofs.Common.{rules}
use Rattle.drm_packet.proofs.Packet.target.Goals as goal

pub returns-in-Copy : goal.returns-in-Copy
returns-in-Copy c = search rules
