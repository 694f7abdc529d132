use Rattle.std.proofs.Common.{rules}
use Rattle.drm_packet.proofs.Packet.reads.Goals as goal

pub returns-in-Add : goal.returns-in-Add
returns-in-Add c = search rules

pub returns-in-Copy : goal.returns-in-Copy
returns-in-Copy c = search rules
