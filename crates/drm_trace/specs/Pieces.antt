-- The log that a text spells, and how it comes in pieces.
use Rattle.std.specs.Prelude.{◌≡◌, ℕ, ◌==◌, List, [], ◌∷◌, ◌++◌, length, drop, Option, Some, Result, Ok, Err, IfSome}
use Rattle.std.specs.List.{position_or_len}
use Rattle.drm_text.specs.declared.fault.Fault.{Fault}
use Rattle.drm_text.specs.declared.fault.ReadError.{ReadError}
use Rattle.drm_text.specs.declared.fault.ReadError.TheVariants as errors
use Rattle.drm_text.specs.Cut.{parts_of}
use Rattle.drm_text.specs.Reading.{◌>>=◌}
use Rattle.drm_trace.specs.declared.log.Log.{Log}
use Rattle.drm_trace.specs.Formats.{with_line}
use Rattle.drm_trace.specs.Log.{nothing_read}

-- what stands behind the last line end is a line too, unless it is nothing
unfoldable pub with_last : Log → List ℕ → Result Log Fault
with_last log [] = Ok log
with_last log (byte ∷ bytes) = with_line log (byte ∷ bytes)

-- what the parts of a text between line ends add to a log, or their first fault
unfoldable pub with_lines : Log → List (List ℕ) → Result Log Fault
with_lines log [] = Ok log
with_lines log (last ∷ []) = with_last log last
with_lines log (line ∷ next ∷ rest) = with_line log line >>= λ more. with_lines more (next ∷ rest)

-- the same of a text
abbrev pub with_text : Log → List ℕ → Result Log Fault
with_text log text = with_lines log (parts_of 10 text)

-- the log that a text spells, or its first fault
abbrev pub log_of : List ℕ → Result Log Fault
log_of text = with_text nothing_read text

-- no line ends in these bytes
abbrev pub IsBare : List ℕ → Type 0
IsBare bytes = position_or_len (λ b. b == 10) bytes ≡ length bytes

-- whatever comes behind it, a text adds to one log what these bytes add to another
abbrev pub GoesOn : Log → List ℕ → Log → List ℕ → Type 0
GoesOn old text new rest = (more : List ℕ) → with_text old (text ++ more) ≡ with_text new (rest ++ more)

-- whatever comes behind it, a text has this fault
abbrev pub StopsAt : Log → List ℕ → Fault → Type 0
StopsAt old text fault = (more : List ℕ) → with_text old (text ++ more) ≡ Err fault

-- a text was read up to some bytes, or has a fault
abbrev pub TakesText : {X : Type 0} → Log → List ℕ → Log → (X → List ℕ) → Result X ReadError → Type 0
TakesText old text new rest (Ok x) = GoesOn old text new (rest x)
TakesText old text new rest (Err errors.Memory) = Unit {0}
TakesText old text new rest (Err (errors.Fault fault)) = StopsAt old text fault

-- of the bytes that a source had, these and those that it still has are left to be read
abbrev pub ReadsOn : Option (List ℕ) → Option (List ℕ) → Log → List ℕ → Type 0
ReadsOn old new log rest =
    IfSome old (λ text. (left : List ℕ) × (new ≡ Some left) × (log_of text ≡ with_text log (rest ++ left)))
