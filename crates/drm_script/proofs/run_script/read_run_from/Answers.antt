use Rattle.std.proofs.lemmas.Result.{err_from_is_err_and}
use Rattle.drm_script.specs.Run.{judge_run}
use Rattle.drm_script.proofs.Known.{judge_run_taken}
use Rattle.drm_stream.proofs.Known.{fails_as, not_read, not_read_well, spelled}
use Rattle.drm_script.proofs.run_script.read_run_from.Goals as goal

pub returns-in-Ok-clause-value : goal.returns-in-Ok-clause-value
returns-in-Ok-clause-value g c =
    spelled judge_run judge_run_taken c.args.reader.now.remaining c.in_ok-text.text.items _ c.in_ok-text.ensures.text (rw (← c.deref.ensures.value) c.in-Ok.ensures.value)

pub returns-clause-value : goal.returns-clause-value
returns-clause-value g c =
    rw c.to_input_error.ensures (not_read judge_run judge_run_taken c.args.reader.now.remaining c.in_ok-text.text.items c.in-Err.error c.in_ok-text.ensures.text (rw (← c.deref.ensures.value) c.in-Err.ensures.value))

pub returns-in_err-text-clause-failures : goal.returns-in_err-text-clause-failures
returns-in_err-text-clause-failures g c =
    let p = err_from_is_err_and c.from_residual.result c.from_residual.ensures.1 in
    rw p.1 (fails_as c.args.reader.now c.read_input.new.reader _ p.0 p.2 c.in_err-text.ensures.failures)

pub returns-clause-failures : goal.returns-clause-failures
returns-clause-failures g c = rw c.to_input_error.ensures (not_read_well c.args.reader.now c.read_input.new.reader c.in-Err.error c.in_ok-text.ensures.failures)
