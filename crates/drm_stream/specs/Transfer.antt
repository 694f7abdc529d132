-- What is read from a reader, and what is written to a writer.
use Rattle.std.specs.Prelude.{◌≡◌, ◌≢◌, ◌+◌, ◌<◌, ◌≤◌, ℕ, true, List, Option, Some, Result, Ok, Err, IfSome, length, drop, take}
use Rattle.std.specs.declared.io.Error.{Error}
use Rattle.std.specs.declared.io.ErrorKind.{ErrorKind}
use Rattle.std.specs.declared.io.ErrorKind.TheVariants.{OutOfMemory}
use Rattle.std.specs.Io.KnownBytes.{Appends}
use Rattle.std.specs.IoError.{error_kind}
use Rattle.drm_text.specs.declared.fault.Fault.{Fault}
use Rattle.drm_text.specs.declared.fault.ReadError.{ReadError}
use Rattle.drm_text.specs.declared.fault.ReadError.TheVariants as reading
use Rattle.drm_stream.specs.declared.input.InputError.{InputError}
use Rattle.drm_stream.specs.declared.input.InputError.TheVariants as input
use Rattle.drm_stream.specs.Streams.{NoReadFailed, NoWriteFailed, SinkState, SourceState}

-- where the reader tells its bytes, they spell this, or have this first fault
abbrev pub IsReadOf : {X : Type 0} → (List ℕ → Result X Fault) → Option (List ℕ) → Result X InputError → Type 0
IsReadOf judge known (Ok x) = IfSome known (λ text. judge text ≡ Ok x)
IsReadOf judge known (Err (input.Fault fault)) = IfSome known (λ text. judge text ≡ Err fault)
IsReadOf judge known (Err input.Memory) = Unit {0}
IsReadOf judge known (Err input.Failed) = Unit {0}

-- what a read that failed so is told as: where memory was refused as that, and never as a fault of the text
abbrev pub IsFailure : ErrorKind → InputError → Type 0
IsFailure kind input.Memory = kind ≡ OutOfMemory
IsFailure kind input.Failed = kind ≢ OutOfMemory
IsFailure kind (input.Fault fault) = ⊥

-- the same error
abbrev pub input_error_of : ReadError → InputError
input_error_of reading.Memory = input.Memory
input_error_of (reading.Fault fault) = input.Fault fault

-- an error of this kind tells that memory was refused and no read failed, or that a read failed
abbrev pub FailsBy : SourceState → SourceState → ErrorKind → Type 0
FailsBy old new kind = (kind ≡ OutOfMemory → new.failed ≡ old.failed) × (kind ≢ OutOfMemory → new.failed ≡ true)

-- bytes were read and no read failed, or the error tells what did
abbrev pub TellsError : {X : Type 0} → SourceState → SourceState → Result X Error → Type 0
TellsError old new (Ok x) = NoReadFailed old new
TellsError old new (Err error) = FailsBy old new (error_kind error)

-- 'input failed' tells that a read failed, a fault that none did, and refused memory that none failed but for that
abbrev pub FailsAs : SourceState → SourceState → InputError → Type 0
FailsAs old new input.Failed = new.failed ≡ true
FailsAs old new input.Memory = new.failed ≡ old.failed
FailsAs old new (input.Fault fault) = NoReadFailed old new

-- a text was read and no read failed, or the error tells what did
abbrev pub TellsFailure : {X : Type 0} → SourceState → SourceState → Result X InputError → Type 0
TellsFailure old new (Ok x) = NoReadFailed old new
TellsFailure old new (Err error) = FailsAs old new error

-- all was written and no write failed, or one did
abbrev pub WritesOrFails : {X E : Type 0} → SinkState → SinkState → Result X E → Type 0
WritesOrFails old new (Ok x) = NoWriteFailed old new
WritesOrFails old new (Err error) = new.failed ≡ true

-- known bytes lose at most their first `most`
abbrev pub LosesAtMost : ℕ → Option (List ℕ) → Option (List ℕ) → Type 0
LosesAtMost most old new = IfSome old (λ bytes. (n : ℕ) × (n ≤ most) × (new ≡ Some (drop n bytes)))

-- a source loses at most its first `most` bytes, by at most so many reads
abbrev pub TakesAtMost : ℕ → SourceState → SourceState → Type 0
TakesAtMost most old new = LosesAtMost most old.remaining new.remaining × (new.reads ≤ old.reads + most)

-- known bytes grow by a front of these, and not by all of them
abbrev pub AppendsFront : Option (List ℕ) → Option (List ℕ) → List ℕ → Type 0
AppendsFront old new bytes = (n : ℕ) × (n < length bytes) × Appends old new (take n bytes)
