use Rattle.std.proofs.Common.{rules}
use Rattle.drm_picture.proofs.bars.endless.Goals as goal

pub returns-in-Stopped-Guilty : goal.returns-in-Stopped-Guilty
returns-in-Stopped-Guilty c = search rules
