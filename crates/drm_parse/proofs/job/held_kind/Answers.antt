use Rattle.std.proofs.Common.{rules}
use Rattle.drm_parse.proofs.job.held_kind.Goals as goal

pub returns-in-104 : goal.returns-in-104
returns-in-104 c = search rules
