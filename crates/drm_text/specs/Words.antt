-- The words of a line from left to right, each judged wholly before the next.
use Rattle.std.specs.Prelude.{ℕ, ◌+◌, ◌^◌, ◌-◌, nat_lt, List, [], ◌∷◌, length, Result, Ok, Err, if◌then◌else◌}
use Rattle.drm_text.specs.declared.fault.Fault.{Fault}
use Rattle.drm_text.specs.declared.fault.Fault.TheVariants.{Text}
use Rattle.drm_text.specs.declared.fault.Position.{Position}
use Rattle.drm_text.specs.declared.fault.TextFault.{TextFault}
use Rattle.drm_text.specs.declared.fault.TextFault.TheVariants as what
use Rattle.drm_text.specs.Cut.{Words}
use Rattle.drm_text.specs.Reading.{◌>>=◌, or_fault}
use Rattle.drm_text.specs.Number.{number_up_to}

-- where the next word begins
abbrev pub position_of : Words → Position
position_of words = record { line = words.line; column = words.rest.at + 1 }

-- a fault of the next word
abbrev pub fault_here : Words → TextFault → Fault
fault_here words what = Text words.line (words.rest.at + 1) what

-- the next of these words, and what is left. A word that is missing has the column after the line's last byte
abbrev pub first_of_words : Words → List (List ℕ) → Result (List ℕ × Words) Fault
first_of_words words [] = Err (Text words.line words.rest.at what.Word)
first_of_words words ([] ∷ rest) = Err (fault_here words what.Word)
first_of_words words ((byte ∷ bytes) ∷ rest) =
    Ok (byte ∷ bytes, record { line = words.line; rest = record { at = words.rest.at + length (byte ∷ bytes) + 1; parts = rest } })

unfoldable pub word_at : Words → Result (List ℕ × Words) Fault
word_at words = first_of_words words words.rest.parts

-- no word is left
abbrev pub nothing_in : Words → List (List ℕ) → Result (Unit {0}) Fault
nothing_in words [] = Ok tt
nothing_in words (word ∷ rest) = Err (fault_here words what.Word)

unfoldable pub end_at : Words → Result (Unit {0}) Fault
end_at words = nothing_in words words.rest.parts

-- a number of at most `most`
unfoldable pub number_at : ℕ → Words → Result (ℕ × Words) Fault
number_at most words = do
  word ← word_at words
  n ← or_fault (number_up_to most word.0) (fault_here words what.Number)
  Ok (n, word.1)

-- a number of at most `most`, which ends the line
unfoldable pub last_number_at : ℕ → Words → Result ℕ Fault
last_number_at most words = do
  n ← number_at most words
  _ ← end_at n.1
  Ok n.0

-- the number of one of `count` things
unfoldable pub name_at : ℕ → Words → Result (ℕ × Words) Fault
name_at count words = do
  n ← number_at (2 ^ 32 - 1) words
  if nat_lt n.0 count then Ok n else Err (fault_here words what.NoSuch)

-- the number of one of `count` things, which ends the line
unfoldable pub last_name_at : ℕ → Words → Result ℕ Fault
last_name_at count words = do
  n ← name_at count words
  _ ← end_at n.1
  Ok n.0
