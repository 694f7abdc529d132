-- Endings and the reads and writes before them.
use Rattle.std.proofs.Common.{refl}
use Rattle.drm_stream.specs.declared.input.InputError.{InputError}
use Rattle.drm_stream.specs.declared.input.InputError.TheVariants as input
use Rattle.drm_stream.specs.Streams.{NoReadFailed, NoWriteFailed, SinkState, SourceState}
use Rattle.drm_stream.specs.Transfer.{FailsAs}
use Rattle.drm_engine.specs.declared.comparison.Comparison.{Comparison}
use Rattle.drm_engine.specs.declared.comparison.Comparison.TheVariants as comparison
use Rattle.drm_engine.specs.Endings.{ending_of_input}
use Rattle.drm_engine.specs.Failures.{EndsBy}
use Rattle.drm_engine.specs.Journals.{ending_of}

-- an input that could not be read, where nothing was written
pub input_fails : (from to : SourceState) (sink : SinkState) (error : InputError) → FailsAs from to error → EndsBy from to sink sink (ending_of_input error)
input_fails from to sink input.Failed failed = (failed, refl)
input_fails from to sink input.Memory failed = (failed, refl)
input_fails from to sink (input.Fault fault) failed = (failed, refl)

-- a comparison that was told
pub compared : (from to : SourceState) (old new : SinkState) (found : Comparison) → NoReadFailed from to → NoWriteFailed old new → EndsBy from to old new (ending_of found)
compared from to old new comparison.Same read wrote = (read, wrote)
compared from to old new (comparison.Differs buffer byte) read wrote = (read, wrote)
