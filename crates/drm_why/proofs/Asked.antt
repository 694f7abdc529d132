-- What is told of a script, told of the input that spells it.
use Rattle.std.proofs.Common.{◌≡◌, ℕ, List, Ok, Option}
use Rattle.std.specs.Prelude.{IfSome}
use Rattle.drm_engine.specs.declared.ending.Ending.{Ending}
use Rattle.drm_engine.specs.declared.ending.Ending.TheVariants as ending
use Rattle.drm_script.specs.declared.script.Script.{Script}
use Rattle.drm_script.specs.Script.{judge_script}
use Rattle.drm_why.specs.Whys.{Tells, Whys}
use Rattle.drm_why.specs.declared.asking.Question.{Question}

pub asked_spelled : (asked : Question) (script : Script) (input old new : Option (List ℕ)) (ended : Ending) → IfSome input (λ text. judge_script text ≡ Ok script)
    → Tells asked script old new ended → Whys asked input old new ended
asked_spelled asked script input old new ending.Done spelled told = (script, spelled, told)
asked_spelled asked script input old new ending.NoMemory spelled kept = kept
asked_spelled asked script input old new ending.NoOutput spelled told = (script, spelled, told)
asked_spelled asked script input old new other spelled never = absurd never
