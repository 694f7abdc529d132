-- What is told of a log, told of the input that spells it.
use Rattle.std.proofs.Common.{◌≡◌, ℕ, List, Ok, Option}
use Rattle.std.specs.Prelude.{IfSome}
use Rattle.drm_engine.specs.declared.ending.Ending.{Ending}
use Rattle.drm_engine.specs.declared.ending.Ending.TheVariants as ending
use Rattle.drm_trace.specs.declared.log.Log.{Log}
use Rattle.drm_trace.specs.Pieces.{log_of}
use Rattle.drm_conform.specs.declared.options.Options.{Options}
use Rattle.drm_conform.specs.Judging.{Judges, Tells}

pub judged : (options : Options) (log : Log) (input old new : Option (List ℕ)) (ended : Ending) → IfSome input (λ text. log_of text ≡ Ok log)
    → Judges options log old new ended → Tells options input old new ended
judged options log input old new ending.Done spelled told = (log, spelled, told)
judged options log input old new ending.Differs spelled told = (log, spelled, told)
judged options log input old new ending.NoMemory spelled kept = kept
judged options log input old new ending.NoOutput spelled told = (log, spelled, told)
judged options log input old new other spelled never = absurd never
