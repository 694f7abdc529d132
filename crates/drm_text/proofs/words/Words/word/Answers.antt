use Rattle.std.proofs.Common.{rules}
use Rattle.drm_text.specs.Words.{word_at}
use Rattle.drm_text.proofs.words.Words.word.Goals as goal

pub returns-in-Some-clause-value : goal.returns-in-Some-clause-value
unfolding word_at
returns-in-Some-clause-value c = search rules

pub returns-in-Some-empty-clause-value : goal.returns-in-Some-empty-clause-value
unfolding word_at
returns-in-Some-empty-clause-value c = search rules

pub returns-in-None-clause-value : goal.returns-in-None-clause-value
unfolding word_at
returns-in-None-clause-value c = search rules
