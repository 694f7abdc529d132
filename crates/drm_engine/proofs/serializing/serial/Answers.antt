use Rattle.std.proofs.Common.{rules}
use Rattle.drm_engine.proofs.Failures.{input_fails}
use Rattle.drm_engine.proofs.serializing.serial.Goals as goal

pub returns-in-Err-clause-ending : goal.returns-in-Err-clause-ending
returns-in-Err-clause-ending g c = search rules

pub returns-in-Ok-put_all-clause-ending : goal.returns-in-Ok-put_all-clause-ending
returns-in-Ok-put_all-clause-ending g c = search rules

pub returns-clause-ending : goal.returns-clause-ending
returns-clause-ending g c = search rules

pub returns-in-Err-clause-failures : goal.returns-in-Err-clause-failures
returns-in-Err-clause-failures g c = rw c.of_input.ensures (input_fails c.args.reader.now c.run_journal_from.new.reader c.args.writer.now c.in-Err.error c.in-Err.ensures.failures)

pub returns-in-Ok-put_all-clause-failures : goal.returns-in-Ok-put_all-clause-failures
returns-in-Ok-put_all-clause-failures g c = (c.in-Ok.ensures.failures, c.in-Ok-put_all.ensures.failures)
