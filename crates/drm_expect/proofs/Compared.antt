-- What a comparison says of the script whose answers were compared.
use Rattle.std.proofs.Common.{◌≡◌, ℕ, List, Ok, Option}
use Rattle.drm_state.specs.declared.answer.Answer.{Answer}
use Rattle.drm_engine.specs.Replaying.{AreAnswers}
use Rattle.drm_engine.specs.declared.ending.Ending.{Ending}
use Rattle.drm_engine.specs.declared.ending.Ending.TheVariants as ending
use Rattle.drm_script.specs.declared.script.Script.{Script}
use Rattle.drm_script.specs.Script.{judge_script}
use Rattle.drm_expect.specs.Lines.{script_text}
use Rattle.drm_expect.specs.Testing.{ComparesOrLacks, TestsLines}
use Rattle.drm_expect.specs.declared.lines.Line.{Line}

pub compared : (lines : List Line) (script : Script) (answers : List Answer) (old new : Option (List ℕ)) (ended : Ending) → judge_script (script_text lines) ≡ Ok script
    → AreAnswers script answers → ComparesOrLacks lines answers old new ended → TestsLines lines old new ended
compared lines script answers old new ending.Done judged are told = (script, judged, (answers, are, told))
compared lines script answers old new ending.Differs judged are told = (script, judged, (answers, are, told))
compared lines script answers old new ending.NoMemory judged are kept = kept
compared lines script answers old new ending.NoOutput judged are told = (script, judged, (answers, are, told))
compared lines script answers old new other judged are never = absurd never
