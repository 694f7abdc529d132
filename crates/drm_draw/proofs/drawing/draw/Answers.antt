use Rattle.drm_draw.proofs.Drawn.{draws_spelled}
use Rattle.drm_engine.proofs.Failures.{input_fails}
use Rattle.drm_draw.proofs.drawing.draw.Goals as goal

pub returns-in-Ok-clause-ending : goal.returns-in-Ok-clause-ending
returns-in-Ok-clause-ending g c =
    draws_spelled c.in-Ok.script c.args.axis c.args.from c.args.to c.args.reader.now.remaining c.args.writer.now.contents c.draw_script.new.writer.contents c.draw_script.result c.in-Ok.ensures.value
    c.draw_script.ensures.ending

pub returns-in-Ok-clause-most : goal.returns-in-Ok-clause-most
returns-in-Ok-clause-most g c = c.read_script_from.ensures.most

pub returns-in-Ok-clause-failures : goal.returns-in-Ok-clause-failures
returns-in-Ok-clause-failures g c = c.draw_script.ensures.failures c.args.reader.now c.read_script_from.new.reader c.in-Ok.ensures.failures

pub returns-in-Err-clause-failures : goal.returns-in-Err-clause-failures
returns-in-Err-clause-failures g c = rw c.of_input.ensures (input_fails c.args.reader.now c.read_script_from.new.reader c.args.writer.now c.in-Err.error c.in-Err.ensures.failures)
