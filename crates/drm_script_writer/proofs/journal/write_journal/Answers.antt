use Rattle.std.proofs.Common.{◌≡◌, rules}
use Rattle.std.specs.List.{AllByRecursion}
use Rattle.drm_script_writer.specs.Journals.{text_of_journal}
use Rattle.drm_journal.specs.JournalGrammar.{RecordFits}
use Rattle.drm_script_writer.specs.Headers.{DeviceFits, HasBytes}
use Rattle.drm_journal.proofs.JournalReaders.{journal_again}
use Rattle.drm_script_writer.proofs.Journals.{written_spells}
use Rattle.drm_script_writer.proofs.journal.write_journal.Goals as goal

pub returns-clause-spelled : goal.returns-clause-spelled
unfolding text_of_journal
returns-clause-spelled c =
    let is : c.extend_from_slice.new.self.items ≡ text_of_journal c.args.journal.now = search rules in
    let device : DeviceFits c.args.journal.now.spec = rw c.spec.ensures.value at c.in_ok-put_header.ensures.fits in
    let jobs : AllByRecursion RecordFits c.args.journal.now.jobs = rw c.jobs.ensures at c.in_ok-put_records.ensures.fits in
    let finals : AllByRecursion HasBytes c.args.journal.now.finals = rw c.finals.ensures at c.in_ok-put_buffers.ensures.fits in
    written_spells c.extend_from_slice.new.self.items c.args.journal.now is c.spec.ensures.stands device jobs finals

pub returns-clause-read_back : goal.returns-clause-read_back
returns-clause-read_back c = λ short. journal_again c.extend_from_slice.new.self.items c.args.journal.now (returns-clause-spelled c short)
