-- What the ending of an engine tells of its reads and writes.
use Rattle.std.specs.Prelude.{◌≡◌, true}
use Rattle.drm_stream.specs.Streams.{NoReadFailed, NoWriteFailed, SinkState, SourceState}
use Rattle.drm_engine.specs.declared.ending.Ending.{Ending}
use Rattle.drm_engine.specs.declared.ending.Ending.TheVariants as ending

-- 'input failed' tells that a read failed, refused memory that none failed but for want of memory, any other that none
-- did
abbrev pub TellsReads : SourceState → SourceState → Ending → Type 0
TellsReads old new ending.NoInput = new.failed ≡ true
TellsReads old new ending.NoMemory = new.failed ≡ old.failed
TellsReads old new other = NoReadFailed old new

-- 'output failed' tells that a write failed, and any other ending that none did
abbrev pub TellsWrites : SinkState → SinkState → Ending → Type 0
TellsWrites old new ending.NoOutput = new.failed ≡ true
TellsWrites old new other = NoWriteFailed old new

-- an engine that had this source and this sink before and behind it ended so by what became of its reads and writes
abbrev pub EndsBy : SourceState → SourceState → SinkState → SinkState → Ending → Type 0
EndsBy from to old new ending = TellsReads from to ending × TellsWrites old new ending
