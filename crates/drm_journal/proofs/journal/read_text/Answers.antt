use Rattle.std.proofs.Common.{rules}
use Rattle.drm_journal.specs.Journal.{judge_journal}
use Rattle.drm_journal.proofs.journal.read_text.Goals as goal

pub new-lines-requires : goal.new-lines-requires
unfolding judge_journal
new-lines-requires c = search rules

pub returns-in_err-spec : goal.returns-in_err-spec
unfolding judge_journal
returns-in_err-spec c = search rules

pub returns-in_err-reading : goal.returns-in_err-reading
unfolding judge_journal
returns-in_err-reading c = search rules

pub returns : goal.returns
unfolding judge_journal
returns c = search rules
