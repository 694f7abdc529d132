use Rattle.std.proofs.Common.{rules}
use Rattle.drm_engine.specs.Replaying.{AnswersScript}
use Rattle.drm_engine.proofs.Failures.{input_fails}
use Rattle.drm_engine.proofs.Pieces.{plays_bare, plays_spelled}
use Rattle.drm_engine.proofs.replaying.replay.Goals as goal

pub play_lines-requires-clause-known : goal.play_lines-requires-clause-known
play_lines-requires-clause-known g c = λ spec. tt

pub returns-in-Ok-clause-ending : goal.returns-in-Ok-clause-ending
returns-in-Ok-clause-ending g c =
    plays_spelled AnswersScript c.in-Ok.script c.args.reader.now.remaining c.args.writer.now.contents c.play_lines.new.writer.contents c.play_lines.result c.in-Ok.ensures.value
    (plays_bare c.in-Ok.script c.args.writer.now.contents c.play_lines.new.writer.contents c.play_lines.result c.play_lines.ensures.ending)

pub returns-in-Ok-clause-most : goal.returns-in-Ok-clause-most
returns-in-Ok-clause-most g c = c.read_script_from.ensures.most

pub returns-in-Ok-clause-failures : goal.returns-in-Ok-clause-failures
returns-in-Ok-clause-failures g c = c.play_lines.ensures.failures c.args.reader.now c.read_script_from.new.reader c.in-Ok.ensures.failures

pub returns-in-Err-clause-ending : goal.returns-in-Err-clause-ending
returns-in-Err-clause-ending g c = search rules

pub returns-in-Err-clause-failures : goal.returns-in-Err-clause-failures
returns-in-Err-clause-failures g c = rw c.of_input.ensures (input_fails c.args.reader.now c.read_script_from.new.reader c.args.writer.now c.in-Err.error c.in-Err.ensures.failures)
