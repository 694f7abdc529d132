use Rattle.drm_engine.proofs.Failures.{input_fails}
use Rattle.drm_script_writer.proofs.Recorded.{recorded}
use Rattle.drm_script_writer.proofs.recording.replay_journal.Goals as goal

pub returns-in-Ok-clause-ending : goal.returns-in-Ok-clause-ending
returns-in-Ok-clause-ending g c =
    recorded c.in-Ok.script c.args.reader.now.remaining c.args.writer.now.contents c.record.new.writer.contents c.record.result c.in-Ok.ensures.value c.record.ensures.ending

pub returns-in-Ok-clause-most : goal.returns-in-Ok-clause-most
returns-in-Ok-clause-most g c = c.read_script_from.ensures.most

pub returns-in-Ok-clause-failures : goal.returns-in-Ok-clause-failures
returns-in-Ok-clause-failures g c = c.record.ensures.failures c.args.reader.now c.read_script_from.new.reader c.in-Ok.ensures.failures

pub returns-in-Err-clause-failures : goal.returns-in-Err-clause-failures
returns-in-Err-clause-failures g c = rw c.of_input.ensures (input_fails c.args.reader.now c.read_script_from.new.reader c.args.writer.now c.in-Err.error c.in-Err.ensures.failures)
