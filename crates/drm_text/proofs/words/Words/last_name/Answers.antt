use Rattle.std.proofs.Common.{rules}
use Rattle.drm_text.specs.Words.{last_name_at}
use Rattle.drm_text.proofs.words.Words.last_name.Goals as goal

pub returns-clause-value : goal.returns-clause-value
unfolding last_name_at
returns-clause-value c = search rules
