use Rattle.std.proofs.Common.{rules}
use Rattle.drm_parse.proofs.job.most_packets.Goals as goal

pub returns-clause-least : goal.returns-clause-least
returns-clause-least c = search rules
