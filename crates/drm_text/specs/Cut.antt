-- A text that is cut at each separator.
use Rattle.std.specs.Prelude.{ℕ, ◌==◌, nat_le, List, [], length, drop, if◌then◌else◌}
use Rattle.std.specs.List.{slice_split}

-- how many bytes lie before the next part, and the parts from there on
pub record Cut : Type 0 where
  pub at : ℕ
  pub parts : List (List ℕ)

-- the parts of a text between separators; a text without one is one part
abbrev pub parts_of : ℕ → List ℕ → List (List ℕ)
parts_of separator bytes = slice_split (λ b. b == separator) bytes

-- what is left of a text behind its first bytes
abbrev pub cut_from : ℕ → List ℕ → ℕ → Cut
cut_from separator bytes at = record {
  at = at;
  parts = if nat_le at (length bytes) then parts_of separator (drop at bytes) else [];
}

-- what is left of the lines of a text: the number and the bytes of the next line, and the parts behind its end.
-- The last part stands behind the last line end
pub record Left : Type 0 where
  pub line : ℕ
  pub bytes : List ℕ
  pub more : List (List ℕ)

-- what is left of the words of a line, and the number of the line
pub record Words : Type 0 where
  pub line : ℕ
  pub rest : Cut
