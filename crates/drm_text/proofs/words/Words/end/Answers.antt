use Rattle.std.proofs.Common.{rules}
use Rattle.drm_text.specs.Words.{end_at}
use Rattle.drm_text.proofs.words.Words.end.Goals as goal

pub returns-clause-value : goal.returns-clause-value
unfolding end_at
returns-clause-value c = search rules
