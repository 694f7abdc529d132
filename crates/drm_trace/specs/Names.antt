-- Numbers for names: the place at which a name was met first.
use Rattle.std.specs.Prelude.{ℕ, Bool, nat_eq, nat_lt, ◌&&◌, ◌++◌, List, [], ◌∷◌, Option, Some, None, length, if◌then◌else◌}
use Rattle.std.specs.List.{position_or_len}

-- whether two names are one
abbrev pub is_pair : ℕ × ℕ → ℕ × ℕ → Bool
is_pair a b = nat_eq a.0 b.0 && nat_eq a.1 b.1

-- the number of a name: its place, or the next one where it is new
abbrev pub number_in : List (ℕ × ℕ) → ℕ × ℕ → ℕ
number_in names name = position_or_len (λ met. is_pair met name) names

-- the number of a name that was met
abbrev pub placed_in : List (ℕ × ℕ) → ℕ × ℕ → Option ℕ
placed_in names name = if nat_lt (number_in names name) (length names) then Some (number_in names name) else None

-- the names, and this one if it is new
abbrev pub with_name : List (ℕ × ℕ) → ℕ × ℕ → List (ℕ × ℕ)
with_name names name = if nat_lt (number_in names name) (length names) then names else names ++ name ∷ []
