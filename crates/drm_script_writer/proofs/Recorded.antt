-- What is recorded of a script, told of the input that spells it.
use Rattle.std.proofs.Common.{◌≡◌, ℕ, List, Ok, Option, subst}
use Rattle.std.specs.Prelude.{IfSome}
use Rattle.drm_core.specs.State.{CoreState, opened}
use Rattle.drm_core.specs.Run.{AllNamesExist, EveryRunIsLawful, Run}
use Rattle.drm_engine.specs.Replaying.{IsAnswered}
use Rattle.drm_engine.specs.declared.ending.Ending.{Ending}
use Rattle.drm_engine.specs.declared.ending.Ending.TheVariants as ending
use Rattle.drm_script.specs.declared.script.Script.{Script}
use Rattle.drm_script.specs.Script.{judge_script}
use Rattle.drm_script_writer.specs.Recording.{LeadsTo, Records, RecordsScript}

-- a run of a script from a core that was opened as its device
pub led : (script : Script) (core final : CoreState) → EveryRunIsLawful → core ≡ opened script.spec → AllNamesExist script.spec script.lines
    → IsAnswered core script.lines final (λ answers. Unit {0}) → LeadsTo script final
led script core final lawful is names answered =
    let run : Run (opened script.spec) script.lines answered.0 final = subst (λ (s : CoreState). Run s script.lines answered.0 final) is answered.1 in
    (answered.0, lawful script.spec script.lines answered.0 final names run)

pub recorded : (script : Script) (input old new : Option (List ℕ)) (ended : Ending) → IfSome input (λ text. judge_script text ≡ Ok script)
    → RecordsScript script old new ended → Records input old new ended
recorded script input old new ending.Done spelled told = (script, spelled, told)
recorded script input old new ending.NoMemory spelled kept = kept
recorded script input old new ending.NoOutput spelled told = (script, spelled, told)
recorded script input old new other spelled never = absurd never
