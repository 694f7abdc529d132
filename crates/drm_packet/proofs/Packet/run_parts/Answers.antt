use Rattle.std.proofs.Common.{rules}
use Rattle.drm_packet.proofs.Packet.run_parts.Goals as goal

pub returns-in-Some-read : goal.returns-in-Some-read
returns-in-Some-read c = search rules

pub returns-in-Some : goal.returns-in-Some
returns-in-Some c = search rules

pub returns-in-None : goal.returns-in-None
returns-in-None c = search rules

pub returns-in-Fill : goal.returns-in-Fill
returns-in-Fill c = search rules
