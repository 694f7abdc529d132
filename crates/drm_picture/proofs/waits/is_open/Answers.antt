use Rattle.std.proofs.Common.{rules}
use Rattle.drm_picture.proofs.waits.is_open.Goals as goal

pub returns-then-bar-place : goal.returns-then-bar-place
returns-then-bar-place c = search rules
