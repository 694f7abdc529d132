use Rattle.drm_journal.proofs.JournalReaders.{journal_found, journal_only}
use Rattle.drm_journal.proofs.journal.read_journal.Goals as goal

pub returns-clause-found : goal.returns-clause-found
returns-clause-found c = journal_found c.args.text.now c.read_text.result c.read_text.ensures

pub returns-clause-only : goal.returns-clause-only
returns-clause-only c = journal_only c.args.text.now c.read_text.result c.read_text.ensures
