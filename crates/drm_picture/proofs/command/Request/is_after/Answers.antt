use Rattle.std.proofs.Common.{rules}
use Rattle.drm_picture.proofs.command.Request.is_after.Goals as goal

pub returns-else-is_conflict : goal.returns-else-is_conflict
returns-else-is_conflict c = search rules
