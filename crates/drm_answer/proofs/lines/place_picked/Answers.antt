use Rattle.std.proofs.Common.{rules}
use Rattle.drm_answer.proofs.lines.place_picked.Goals as goal

pub returns-else-skipped-clause-text : goal.returns-else-skipped-clause-text
returns-else-skipped-clause-text c = search rules
