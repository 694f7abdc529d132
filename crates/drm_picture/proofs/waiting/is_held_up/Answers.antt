use Rattle.std.proofs.Common.{rules}
use Rattle.drm_picture.proofs.waiting.is_held_up.Goals as goal

pub returns-then-is_open : goal.returns-then-is_open
returns-then-is_open c = search rules
