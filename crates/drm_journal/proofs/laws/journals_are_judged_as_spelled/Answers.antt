use Rattle.drm_journal.proofs.JournalReaders.{journal_again, journal_takes}
use Rattle.drm_journal.proofs.laws.journals_are_judged_as_spelled.Goals as goal

pub returns : goal.returns
returns c = λ text x. (journal_takes text x, journal_again text x)
