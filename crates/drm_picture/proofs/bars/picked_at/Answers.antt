use Rattle.std.proofs.Common.{rules}
use Rattle.drm_picture.proofs.bars.picked_at.Goals as goal

pub returns-in-Picked : goal.returns-in-Picked
returns-in-Picked c = search rules
