-- How what was asked for ended.
use Rattle.std.specs.Prelude.{ℕ, Bool, false, List, Result, Ok, Err, codes}
use Rattle.drm_conform.specs.Judging.{text_of_judged}
use Rattle.drm_engine.specs.Endings as ends
use Rattle.drm_engine.specs.Failures.{EndsBy}
use Rattle.drm_engine.specs.declared.ending.Ending.{Ending}
use Rattle.drm_stream.specs.Streams.{NoReadFailed, NoWriteFailed, SinkState, SourceState}
use Rattle.drm_words.specs.Faults.{text_of_told}
use Rattle.drm_words.specs.declared.fault.FaultInWords.{FaultInWords}
use Rattle.drmsim.specs.declared.outcome.Outcome.{Outcome}
use Rattle.drmsim.specs.declared.outcome.Outcome.TheVariants as outcome

-- whether standard output has told it all
abbrev pub is_told : Outcome → Bool
is_told (outcome.Ended ended) = ends.is_told ended
is_told (outcome.Judged judged) = ends.is_told judged.ending
is_told other = false

-- the exit status
abbrev pub status_of_outcome : Outcome → ℕ
status_of_outcome (outcome.Ended ended) = ends.status_of ended
status_of_outcome (outcome.Faulty told) = 2
status_of_outcome (outcome.Judged judged) = ends.status_of judged.ending
status_of_outcome outcome.NoLimits = 2
status_of_outcome outcome.NoFinal = 2
status_of_outcome outcome.NoFence = 2
status_of_outcome outcome.NoAxis = 2

-- what is printed of it
abbrev pub text_of_outcome : Outcome → List ℕ
text_of_outcome (outcome.Ended ended) = ends.text_of_ending ended
text_of_outcome (outcome.Faulty told) = text_of_told told
text_of_outcome (outcome.Judged judged) = text_of_judged judged.ending
text_of_outcome outcome.NoLimits =
    codes "error: '--limit' takes rings and numbers, as in gfx=3,sdma=2, and '--tolerance' a number of microseconds\n\nFor more information, try '--help'."
text_of_outcome outcome.NoFinal = codes "error: '--final' takes the number of a final, 0 to 4294967295\n\nFor more information, try '--help'."
text_of_outcome outcome.NoFence = codes "error: 'why' takes the number of a fence, '--all' or '--rings'\n\nFor more information, try '--help'."
text_of_outcome outcome.NoAxis = codes "error: '--by' takes 'command' or 'moment'\n\nFor more information, try '--help'."

-- an engine ended so that this holds of its ending
abbrev pub Ends : (Ending → Type 0) → Outcome → Type 0
Ends Holds (outcome.Ended ended) = Holds ended
Ends Holds other = ⊥

-- a replay with words ended so that this holds of its ending, or of the fault of its script
abbrev pub EndsInWords : (Result Ending FaultInWords → Type 0) → Outcome → Type 0
EndsInWords Holds (outcome.Ended ended) = Holds (Ok ended)
EndsInWords Holds (outcome.Faulty told) = Holds (Err told)
EndsInWords Holds other = ⊥

-- no read and no write failed
abbrev pub NoneFailed : SourceState → SourceState → SinkState → SinkState → Type 0
NoneFailed before after old new = NoReadFailed before after × NoWriteFailed old new

-- what was asked for ended so by what became of its reads and writes
abbrev pub EndsSo : SourceState → SourceState → SinkState → SinkState → Outcome → Type 0
EndsSo before after old new (outcome.Ended ended) = EndsBy before after old new ended
EndsSo before after old new (outcome.Faulty told) = NoneFailed before after old new
EndsSo before after old new (outcome.Judged judged) = EndsBy before after old new judged.ending
EndsSo before after old new outcome.NoLimits = NoneFailed before after old new
EndsSo before after old new outcome.NoFinal = NoneFailed before after old new
EndsSo before after old new outcome.NoFence = NoneFailed before after old new
EndsSo before after old new outcome.NoAxis = NoneFailed before after old new
