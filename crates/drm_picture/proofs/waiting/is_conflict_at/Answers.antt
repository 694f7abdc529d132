use Rattle.std.proofs.Common.{rules}
use Rattle.drm_picture.proofs.waiting.is_conflict_at.Goals as goal

pub returns-in-Some : goal.returns-in-Some
returns-in-Some c = search rules
