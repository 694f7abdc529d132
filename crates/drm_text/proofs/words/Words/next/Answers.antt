use Rattle.std.proofs.Common.{rules}
use Rattle.drm_text.proofs.words.Words.next.Goals as goal

pub returns-clause-none : goal.returns-clause-none
returns-clause-none c = search rules
