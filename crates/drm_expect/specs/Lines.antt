-- The lines of a test: the lines of a script, the answers that are expected of them, and remarks between them.
use Rattle.std.specs.Prelude.{◌≡◌, ℕ, ◌+◌, ◌-◌, ◌<◌, ◌==◌, ◌⊎◌, Bool, true, false, IsTrue, IsFalse, List, [], ◌∷◌, ◌++◌, Option, Some, None, drop, flat_map, length, slice_get, take}
use Rattle.std.specs.Option.{option_map_or}
use Rattle.std.specs.Str.{IsTrimAsciiEnd, IsTrimAsciiStart}
use Rattle.drm_expect.specs.declared.lines.Line.{Line}

-- whether a line is for its reader alone: it is empty, or begins with '#'
abbrev pub is_remark : List ℕ → Bool
is_remark [] = true
is_remark (byte ∷ rest) = byte == 35

-- whether an '=' stands at this place
abbrev pub is_equals_at : List ℕ → ℕ → Bool
is_equals_at bytes place = option_map_or (λ byte. byte == 61) (slice_get bytes place) false

-- none stands before this place
abbrev pub NoEqualsBefore : List ℕ → ℕ → Type 0
NoEqualsBefore bytes place = (i : ℕ) → i < place → IsFalse (is_equals_at bytes i)

-- the first one stands there
pub record FirstEquals (bytes : List ℕ) (place : ℕ) : Type 0 where
  pub at : IsTrue (is_equals_at bytes place)
  pub before : NoEqualsBefore bytes place

-- it stands there, or there is none
abbrev pub IsFoundAt : List ℕ → Option ℕ → Type 0
IsFoundAt bytes (Some place) = FirstEquals bytes place
IsFoundAt bytes None = (place : ℕ) → NoEqualsBefore bytes place

-- what a line expects: the line of the script stands before its first '=', and the answer behind it, without the spaces
-- around that. A line without '=' expects nothing
abbrev pub Expects : List ℕ → Option ℕ → List ℕ → Option (List ℕ) → Type 0
Expects bytes None bare wanted = (bare ≡ bytes) × (wanted ≡ None)
Expects bytes (Some place) bare wanted =
    IsTrimAsciiEnd (take place bytes) bare × ((answer : List ℕ) × IsTrimAsciiStart (drop (place + 1) bytes) answer × (wanted ≡ Some answer))

-- the line of these bytes, which has this number
pub record IsLine (number : ℕ) (bytes : List ℕ) (line : Line) : Type 0 where
  pub numbered : line.number ≡ number
  pub place : Option ℕ
  pub found : IsFoundAt bytes place
  pub expects : Expects bytes place line.bare line.wanted

-- the lines with that of these bytes, unless it is a remark
abbrev pub IsAdded : ℕ → List ℕ → List Line → List Line → Type 0
IsAdded number bytes old new =
    (IsTrue (is_remark bytes) × (new ≡ old))
    ⊎ (IsFalse (is_remark bytes) × ((line : Line) × IsLine number bytes line × (new ≡ old ++ line ∷ [])))

-- the lines of a test from this number on, without the remarks
abbrev pub AreLines : ℕ → List (List ℕ) → List Line → Type 0
AreLines number [] lines = lines ≡ []
AreLines number (bytes ∷ more) lines =
    (IsTrue (is_remark bytes) × AreLines (number + 1) more lines)
    ⊎ (IsFalse (is_remark bytes)
    × ((line : Line) × (rest : List Line) × (lines ≡ line ∷ rest) × IsLine number bytes line × AreLines (number + 1) more rest))

-- the script that is left of them
abbrev pub script_text : List Line → List ℕ
script_text lines = flat_map (λ line. line.bare ++ 10 ∷ []) lines

-- the number of the last line
abbrev pub last_number : List Line → ℕ
last_number lines = option_map_or (λ line. line.number) (slice_get lines (length lines - 1)) 0
