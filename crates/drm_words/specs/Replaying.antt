-- A replay with words: what is written answers the script that is read, and says beside each answer what it means and
-- why.
use Rattle.std.specs.Prelude.{ℕ, List, Option, Result, Ok, Err}
use Rattle.std.specs.Io.KnownBytes.{Keeps}
use Rattle.drm_engine.specs.Failures.{EndsBy}
use Rattle.drm_engine.specs.Replaying.{ReplaysAs, TellsScript}
use Rattle.drm_engine.specs.declared.ending.Ending.{Ending}
use Rattle.drm_engine.specs.declared.ending.Ending.TheVariants as ending
use Rattle.drm_stream.specs.Streams.{NoReadFailed, NoWriteFailed, SinkState, SourceState}
use Rattle.drm_words.specs.Lines.{worded_line}
use Rattle.drm_words.specs.Reading.{IsFaultOf}
use Rattle.drm_words.specs.declared.fault.FaultInWords.{FaultInWords}

-- a fault of the script is no ending: it is told in words
abbrev pub IsNoFault : Ending → Type 0
IsNoFault (ending.Fault fault) = ⊥
IsNoFault other = Unit {0}

-- what each ending, or the fault in words, says of the input and of what the writer holds before and after
abbrev pub ReplaysWithWords : Option (List ℕ) → Option (List ℕ) → Option (List ℕ) → Result Ending FaultInWords → Type 0
ReplaysWithWords input old new (Ok ended) = ReplaysAs (TellsScript worded_line) input old new ended × IsNoFault ended
ReplaysWithWords input old new (Err told) = IsFaultOf told input × Keeps old new

-- and of its reads and writes
abbrev pub EndsInWords : SourceState → SourceState → SinkState → SinkState → Result Ending FaultInWords → Type 0
EndsInWords from to old new (Ok ended) = EndsBy from to old new ended
EndsInWords from to old new (Err told) = NoReadFailed from to × NoWriteFailed old new
