use Rattle.std.proofs.Common.{rules}
use Rattle.drm_journal.proofs.journal.JournalJob.of_record.Goals as goal

pub returns : goal.returns
returns c = search rules
