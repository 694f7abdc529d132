-- How a text is put together: lines of words.
use Rattle.std.specs.Prelude.{ℕ, ◌^◌, ◌-◌, ◌<◌, ◌≤◌, List, [], ◌∷◌, ◌++◌, length, flat_map}
use Rattle.std.specs.List.{AllByRecursion, join_with_byte}

-- a line: words with one space between each two, and a line end
abbrev pub line_of_words : List (List ℕ) → List ℕ
line_of_words words = join_with_byte 32 words ++ 10 ∷ []

-- a text: lines
abbrev pub text_of_lines : List (List (List ℕ)) → List ℕ
text_of_lines lines = flat_map line_of_words lines

-- n is the number of one of `count` things
abbrev pub IsName : ℕ → ℕ → Type 0
IsName count n = (n ≤ 2 ^ 32 - 1) × (n < count)

-- these are one or more bytes
abbrev pub AreBytes : List ℕ → Type 0
AreBytes bytes = (0 < length bytes) × AllByRecursion (λ byte. byte < 256) bytes
