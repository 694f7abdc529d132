-- The lines of a text, each judged wholly before the next.
use Rattle.std.specs.Prelude.{◌≡◌, ℕ, Bool, true, ◌+◌, ◌==◌, ◌&&◌, ◌||◌, nat_le, List, [], ◌∷◌, length, Result, Ok, Err, if◌then◌else◌}
use Rattle.std.specs.List.{AllByRecursion, list_all}
use Rattle.drm_text.specs.declared.fault.Fault.{Fault}
use Rattle.drm_text.specs.declared.fault.Fault.TheVariants.{Text}
use Rattle.drm_text.specs.declared.fault.TextFault.TheVariants as what
use Rattle.drm_text.specs.declared.keywords.Keyword.{Keyword}
use Rattle.drm_text.specs.Cut.{Words, Left, cut_from, parts_of}
use Rattle.drm_text.specs.Reading.{◌>>=◌, or_fault}
use Rattle.drm_text.specs.Words.{word_at}
use Rattle.drm_text.specs.Keywords.{keyword_of}

abbrev pub is_printable : ℕ → Bool
is_printable byte = nat_le 32 byte && nat_le byte 126

-- whether a text has the byte, in a line or as a line's end
abbrev pub is_of_lines : ℕ → Bool
is_of_lines byte = is_printable byte || byte == 10

-- each byte of each line is one that texts have
abbrev pub AreText : List (List ℕ) → Type 0
AreText lines = AllByRecursion (λ bytes. list_all is_printable bytes ≡ true) lines

-- a line and its number
pub record Numbered : Type 0 where
  pub number : ℕ
  pub bytes : List ℕ

-- the first byte that no text has, from a column on
abbrev pub text_fault : ℕ → ℕ → List ℕ → Result (Unit {0}) Fault
text_fault line column [] = Ok tt
text_fault line column (byte ∷ bytes) =
    if is_printable byte then text_fault line (column + 1) bytes else Err (Text line column what.NotText)

-- the first word of a line, and what is left of the line
unfoldable pub start_at : ℕ → List ℕ → Result (Keyword × Words) Fault
start_at line bytes =
    let words : Words = record { line = line; rest = cut_from 32 bytes 0 } in
    text_fault line 1 bytes >>= λ _.
    word_at words >>= λ first.
    or_fault (keyword_of first.0) (Text line 1 what.Word) >>= λ keyword.
    Ok (keyword, first.1)

-- what stands behind the last line end: nothing, or a line without its end
abbrev pub last_line : ℕ → List ℕ → Result (Unit {0}) Fault
last_line line [] = Ok tt
last_line line (byte ∷ bytes) =
    text_fault line 1 (byte ∷ bytes) >>= λ _. Err (Text line (length (byte ∷ bytes) + 1) what.NoEnd)

-- the fault of a line that is not allowed at its place
abbrev pub out_of_order : ℕ → Fault
out_of_order line = Text line 1 what.Order

-- all lines of a text
abbrev pub left_of : List (List ℕ) → Left
left_of [] = record { line = 1; bytes = []; more = [] }
left_of (bytes ∷ more) = record { line = 1; bytes = bytes; more = more }

abbrev pub lines_of : List ℕ → Left
lines_of text = left_of (parts_of 10 text)
