use Rattle.std.proofs.Common.{rules}
use Rattle.drm_picture.proofs.marks.push_marks.Goals as goal

pub returns-then-place-from : goal.returns-then-place-from
returns-then-place-from c = search rules
