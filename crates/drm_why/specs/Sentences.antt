-- Numbers between texts.
use Rattle.std.specs.Prelude.{ℕ, List, ◌++◌}
use Rattle.std.specs.Fmt.{decimal}

-- a number between two texts, and two numbers, each behind a text
unfoldable pub one_in : List ℕ → ℕ → List ℕ → List ℕ
one_in before number behind = before ++ decimal number ++ behind

unfoldable pub two_in : List ℕ → ℕ → List ℕ → ℕ → List ℕ
two_in before first between second = before ++ decimal first ++ between ++ decimal second
