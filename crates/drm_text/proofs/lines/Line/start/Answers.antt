use Rattle.std.proofs.Common.{rules}
use Rattle.drm_text.specs.Lines.{start_at}
use Rattle.drm_text.proofs.lines.Line.start.Goals as goal

pub returns-in_err-keyword : goal.returns-in_err-keyword
unfolding start_at
returns-in_err-keyword c = search rules
