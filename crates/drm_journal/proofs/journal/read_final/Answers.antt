use Rattle.std.proofs.Common.{rules}
use Rattle.drm_journal.specs.Journal.{final_at}
use Rattle.drm_journal.proofs.journal.read_final.Goals as goal

pub returns-in_err-end-clause-value : goal.returns-in_err-end-clause-value
unfolding final_at
returns-in_err-end-clause-value c = search rules

pub returns-clause-value : goal.returns-clause-value
unfolding final_at
returns-clause-value c = search rules

pub returns-clause-size : goal.returns-clause-size
unfolding final_at
returns-clause-size c = search rules
