-- Why no script was read, where its fault is told in words.
use Rattle.std.specs.Prelude.{◌≡◌, ◌≢◌, ℕ, true, List, Option, Result, Ok, Err, IfSome}
use Rattle.std.specs.String.{string_bytes}
use Rattle.std.specs.declared.io.ErrorKind.{ErrorKind}
use Rattle.std.specs.declared.io.ErrorKind.TheVariants.{OutOfMemory}
use Rattle.drm_text.specs.declared.fault.Fault.{Fault}
use Rattle.drm_text.specs.declared.fault.ReadError.{ReadError}
use Rattle.drm_text.specs.declared.fault.ReadError.TheVariants as errors
use Rattle.drm_script.specs.Script.{judge_script}
use Rattle.drm_script.specs.declared.script.Script.{Script}
use Rattle.drm_stream.specs.Streams.{NoReadFailed, SourceState}
use Rattle.drm_words.specs.Faults.{words_of_fault}
use Rattle.drm_words.specs.declared.fault.FaultInWords.{FaultInWords}
use Rattle.drm_words.specs.declared.reading.Unread.{Unread}
use Rattle.drm_words.specs.declared.reading.Unread.TheVariants as unread

-- these are the words for this fault of the text
abbrev pub TellsFault : List ℕ → Fault → FaultInWords → Type 0
TellsFault text fault told = (told.fault ≡ fault) × (string_bytes told.words ≡ words_of_fault text fault)

-- the text has this fault, told in words unless memory was refused
abbrev pub IsToldBy : List ℕ → Fault → Unread → Type 0
IsToldBy text fault unread.NoInput = ⊥
IsToldBy text fault unread.NoMemory = Unit {0}
IsToldBy text fault (unread.Faulty told) = TellsFault text fault told

abbrev pub IsMisspelledBy : List ℕ → ReadError → Unread → Type 0
IsMisspelledBy text errors.Memory why = why ≡ unread.NoMemory
IsMisspelledBy text (errors.Fault fault) why = IsToldBy text fault why

-- a read that failed so
abbrev pub IsUnreadBy : ErrorKind → Unread → Type 0
IsUnreadBy kind unread.NoInput = kind ≢ OutOfMemory
IsUnreadBy kind unread.NoMemory = kind ≡ OutOfMemory
IsUnreadBy kind (unread.Faulty told) = ⊥

-- the input has this first fault, and these are the words for it
abbrev pub IsFaultOf : FaultInWords → Option (List ℕ) → Type 0
IsFaultOf told input = IfSome input (λ bytes. (judge_script bytes ≡ Err told.fault) × (string_bytes told.words ≡ words_of_fault bytes told.fault))

-- where the reader tells its bytes, they spell this script, or have this first fault
abbrev pub IsReadInWords : Option (List ℕ) → Result Script Unread → Type 0
IsReadInWords known (Ok script) = IfSome known (λ text. judge_script text ≡ Ok script)
IsReadInWords known (Err (unread.Faulty told)) = IsFaultOf told known
IsReadInWords known (Err unread.NoInput) = Unit {0}
IsReadInWords known (Err unread.NoMemory) = Unit {0}

-- no read failed, or the error tells that one did
abbrev pub TellsUnread : SourceState → SourceState → Result Script Unread → Type 0
TellsUnread old new (Ok script) = NoReadFailed old new
TellsUnread old new (Err unread.NoInput) = new.failed ≡ true
TellsUnread old new (Err unread.NoMemory) = new.failed ≡ old.failed
TellsUnread old new (Err (unread.Faulty told)) = NoReadFailed old new
