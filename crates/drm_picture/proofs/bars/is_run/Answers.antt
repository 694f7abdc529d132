use Rattle.std.proofs.Common.{rules}
use Rattle.drm_picture.proofs.bars.is_run.Goals as goal

pub returns-in-Ran : goal.returns-in-Ran
returns-in-Ran c = search rules
