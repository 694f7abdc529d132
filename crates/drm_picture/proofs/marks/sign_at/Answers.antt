use Rattle.std.proofs.Common.{rules}
use Rattle.drm_picture.proofs.marks.sign_at.Goals as goal

pub returns-in-Refused : goal.returns-in-Refused
returns-in-Refused c = search rules
