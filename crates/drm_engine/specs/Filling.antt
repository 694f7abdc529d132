-- Words with numbers in them.
use Rattle.std.specs.Prelude.{ℕ, Bool, true, false, List, [], ◌∷◌, ◌++◌, ◌==◌, drop, take, flat_map, if◌then◌else◌}
use Rattle.std.specs.Fmt.{decimal}

-- the words, with the next of the numbers in place of each '%' (37)
unfoldable pub filled : List ℕ → List ℕ → List ℕ
filled [] numbers = []
filled (byte ∷ rest) numbers =
    if byte == 37 then flat_map decimal (take 1 numbers) ++ filled rest (drop 1 numbers) else byte ∷ filled rest numbers

-- words that no number stands in
abbrev pub is_plain : List ℕ → Bool
is_plain [] = true
is_plain (byte ∷ rest) = if byte == 37 then false else is_plain rest

-- the numbers of a sentence, of which none has more than four: zeros stand behind the last
abbrev pub no_numbers : List ℕ
no_numbers = 0 ∷ 0 ∷ 0 ∷ 0 ∷ []

abbrev pub one : ℕ → List ℕ
one a = a ∷ 0 ∷ 0 ∷ 0 ∷ []

abbrev pub two : ℕ → ℕ → List ℕ
two a b = a ∷ b ∷ 0 ∷ 0 ∷ []

abbrev pub three : ℕ → ℕ → ℕ → List ℕ
three a b c = a ∷ b ∷ c ∷ 0 ∷ []

abbrev pub four : ℕ → ℕ → ℕ → ℕ → List ℕ
four a b c d = a ∷ b ∷ c ∷ d ∷ []
