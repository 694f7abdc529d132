use Rattle.std.proofs.Common.{rules}
use Rattle.drm_text.specs.Words.{name_at}
use Rattle.drm_text.proofs.words.Words.name.Goals as goal

pub returns-clause-value : goal.returns-clause-value
unfolding name_at
returns-clause-value c = search rules

pub returns-clause-exists : goal.returns-clause-exists
unfolding name_at
returns-clause-exists c = search rules
