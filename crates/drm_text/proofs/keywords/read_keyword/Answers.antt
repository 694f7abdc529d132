use Rattle.std.proofs.Common.{rules}
use Rattle.drm_text.specs.Keywords.{keyword_of}
use Rattle.drm_text.proofs.keywords.read_keyword.Goals as goal

pub returns-then-is_word-23 : goal.returns-then-is_word-23
unfolding keyword_of
returns-then-is_word-23 c = search rules

pub returns-then-is_word-25 : goal.returns-then-is_word-25
unfolding keyword_of
returns-then-is_word-25 c = search rules
