use Rattle.drm_engine.proofs.Failures.{input_fails}
use Rattle.drm_conform.proofs.Judging.{judged}
use Rattle.drm_conform.proofs.conforming.judge.Goals as goal

pub returns-in-Ok-clause-ending : goal.returns-in-Ok-clause-ending
returns-in-Ok-clause-ending g c =
    judged c.args.options.now c.in-Ok.log c.args.reader.now.remaining c.args.writer.now.contents c.judge_log.new.writer.contents c.judge_log.result c.in-Ok.ensures.value c.judge_log.ensures.ending

pub returns-in-Ok-clause-failures : goal.returns-in-Ok-clause-failures
returns-in-Ok-clause-failures g c = c.judge_log.ensures.failures c.args.reader.now c.read_log.new.reader c.in-Ok.ensures.failures

pub returns-in-Err-clause-failures : goal.returns-in-Err-clause-failures
returns-in-Err-clause-failures g c = rw c.of_input.ensures (input_fails c.args.reader.now c.read_log.new.reader c.args.writer.now c.in-Err.error c.in-Err.ensures.failures)
