use Rattle.drm_text.proofs.KeywordsWritten.{keyword_takes, keyword_written}
use Rattle.drm_text.proofs.laws.keywords_are_spelled_in_one_way.Goals as goal

pub returns-clause-read : goal.returns-clause-read
returns-clause-read c = keyword_takes

pub returns-clause-written : goal.returns-clause-written
returns-clause-written c = keyword_written
