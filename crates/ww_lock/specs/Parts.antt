-- Each seat has a part of the board: pieces, each of which is told by how often it was halved.
-- The parts of all seats make up the whole.
use Rattle.std.specs.Prelude.{ℕ, ◌+◌, ◌-◌, ◌^◌, ◌≡◌, ◌≤◌, List, [], ◌∷◌}

-- the pieces make up so many 2^n-ths of the board
abbrev pub weight : ℕ → List ℕ → ℕ
weight n [] = 0
weight n (d ∷ ds) = 2 ^ (n - d) + weight n ds

-- no piece was halved more often than n times
abbrev pub AreWithin : ℕ → List ℕ → Type 0
AreWithin n [] = Unit {0}
AreWithin n (d ∷ ds) = (d ≤ n) × AreWithin n ds

-- the pieces are the whole board
abbrev pub IsWhole : List ℕ → Type 0
IsWhole ds = (n : ℕ) × AreWithin n ds × (weight n ds ≡ 2 ^ n)

-- each piece is halved
abbrev pub halved : List ℕ → List ℕ
halved [] = []
halved (d ∷ ds) = (d + 1) ∷ halved ds
