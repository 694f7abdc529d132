use Rattle.std.proofs.Common.{rules}
use Rattle.drm_text.proofs.lines.Line.number.Goals as goal

pub returns : goal.returns
returns c = search rules
