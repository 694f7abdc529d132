use Rattle.drm_script.specs.Script.{judge_script}
use Rattle.drm_script.proofs.Known.{judge_script_taken}
use Rattle.drm_stream.proofs.Known.{spelled}
use Rattle.drm_words.proofs.Texts.{misspelled}
use Rattle.drm_words.proofs.reading.read_worded.Goals as goal

pub returns-in-Ok-read_script-clause-value : goal.returns-in-Ok-read_script-clause-value
returns-in-Ok-read_script-clause-value g c =
    spelled judge_script judge_script_taken c.args.reader.now.remaining c.in-Ok.text.items _ c.in-Ok.ensures.text (rw (← c.deref.ensures.value) c.in-Ok-read_script.ensures.value)

pub returns-clause-value : goal.returns-clause-value
returns-clause-value g c =
    misspelled c.args.reader.now.remaining c.in-Ok.text.items c.in-Err-read_script.error c.not_spelled.result c.in-Ok.ensures.text (rw (← c.deref.ensures.value) c.in-Err-read_script.ensures.value)
    (rw (← c.deref-in-Err-read_script.ensures.value) c.not_spelled.ensures)
