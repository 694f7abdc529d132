use Rattle.std.proofs.Common.{rules}
use Rattle.drm_text.specs.Words.{last_number_at}
use Rattle.drm_text.proofs.words.Words.last_number.Goals as goal

pub returns-clause-value : goal.returns-clause-value
unfolding last_number_at
returns-clause-value c = search rules
