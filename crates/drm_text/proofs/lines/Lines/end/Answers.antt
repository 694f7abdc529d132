use Rattle.std.proofs.Common.{rules}
use Rattle.drm_text.proofs.lines.Lines.end.Goals as goal

pub returns : goal.returns
returns c = search rules
