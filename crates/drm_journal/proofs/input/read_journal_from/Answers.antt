use Rattle.std.proofs.lemmas.Result.{err_from_is_err_and}
use Rattle.drm_journal.specs.Journal.{judge_journal}
use Rattle.drm_journal.proofs.JournalReaders.{journal_stands}
use Rattle.drm_journal.proofs.Taken.{judge_journal_taken}
use Rattle.drm_stream.proofs.Known.{fails_as, not_read, not_read_well, spelled}
use Rattle.drm_journal.proofs.input.read_journal_from.Goals as goal

pub returns-in-Ok-clause-value : goal.returns-in-Ok-clause-value
returns-in-Ok-clause-value g c =
    spelled judge_journal judge_journal_taken c.args.reader.now.remaining c.in_ok-text.text.items _ c.in_ok-text.ensures.text (rw (← c.deref.ensures.value) c.in-Ok.ensures.value)

pub returns-clause-value : goal.returns-clause-value
returns-clause-value g c =
    rw c.to_input_error.ensures (not_read judge_journal judge_journal_taken c.args.reader.now.remaining c.in_ok-text.text.items c.in-Err.error c.in_ok-text.ensures.text (rw (← c.deref.ensures.value) c.in-Err.ensures.value))

pub returns-in-Ok-clause-stands : goal.returns-in-Ok-clause-stands
returns-in-Ok-clause-stands g c = journal_stands c.deref.result.now c.in-Ok.journal c.in-Ok.ensures.found

pub returns-in_err-text-clause-failures : goal.returns-in_err-text-clause-failures
returns-in_err-text-clause-failures g c =
    let p = err_from_is_err_and c.from_residual.result c.from_residual.ensures.1 in
    rw p.1 (fails_as c.args.reader.now c.read_input.new.reader _ p.0 p.2 c.in_err-text.ensures.failures)

pub returns-clause-failures : goal.returns-clause-failures
returns-clause-failures g c = rw c.to_input_error.ensures (not_read_well c.args.reader.now c.read_input.new.reader c.in-Err.error c.in_ok-text.ensures.failures)
