use Rattle.std.proofs.Common.{rules}
use Rattle.drm_journal.proofs.journal.may_run.Goals as goal

pub returns-in-Some-Good : goal.returns-in-Some-Good
returns-in-Some-Good c = search rules
