use Rattle.std.proofs.Common.{rules}
use Rattle.drm_parse.proofs.job.comes_late.Goals as goal

pub returns-else-not-is_empty : goal.returns-else-not-is_empty
returns-else-not-is_empty c = search rules
