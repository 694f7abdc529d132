use Rattle.std.proofs.Common.{rules}
use Rattle.drm_text.specs.Words.{number_at, word_at}
use Rattle.drm_text.proofs.words.Words.number.Goals as goal

pub returns-in-None-clause-value : goal.returns-in-None-clause-value
unfolding number_at word_at
returns-in-None-clause-value c = search rules

pub returns-in-Some-empty-None-clause-value : goal.returns-in-Some-empty-None-clause-value
unfolding number_at word_at
returns-in-Some-empty-None-clause-value c = search rules

pub returns-in-Some-default-Some-clause-value : goal.returns-in-Some-default-Some-clause-value
unfolding number_at word_at
returns-in-Some-default-Some-clause-value c = search rules

pub returns-in-Some-default-None-clause-value : goal.returns-in-Some-default-None-clause-value
unfolding number_at word_at
returns-in-Some-default-None-clause-value c = search rules
