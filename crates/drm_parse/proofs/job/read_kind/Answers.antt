use Rattle.std.proofs.Common.{rules}
use Rattle.drm_parse.proofs.job.read_kind.Goals as goal

pub returns : goal.returns
returns c = search rules
