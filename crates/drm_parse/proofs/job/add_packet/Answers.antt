use Rattle.std.proofs.Common.{rules}
use Rattle.drm_parse.proofs.job.add_packet.Goals as goal

pub returns : goal.returns
returns c = search rules
