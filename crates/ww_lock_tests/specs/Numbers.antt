-- A pivot that lists buffer numbers, and values that count them.
use Rattle.std.specs.Prelude.{ℕ, ◌≡◌, ◌+◌, ◌==◌, List, [], ◌∷◌, ◌++◌, if◌then◌else◌}
use Rattle.std.proofs.Common.{sym, ap, ◌∙◌, append-nil, append_assoc}
use mathlib.Core.List.{IsPrefix}
use Rattle.ww_lock.specs.Rule.{In}

abbrev pub count_of : ℕ → List ℕ → ℕ
count_of b [] = 0
count_of b (x ∷ xs) = (if x == b then 1 else 0) + count_of b xs

-- each value counts how often its number stands in the list
abbrev pub Counts : {X : Type 0} → (X → ℕ) → List ℕ → List (ℕ × X) → Type 0
Counts {X} times ns xs = (b : ℕ) (x : X) → In (b, x) xs → times x ≡ count_of b ns

pub prefix_same : (xs : List ℕ) → IsPrefix xs xs
prefix_same xs = ([], append-nil xs)

pub prefix_twice : (xs ys zs : List ℕ) → IsPrefix xs ys → IsPrefix ys zs → IsPrefix xs zs
prefix_twice xs ys zs p q = (p.0 ++ q.0, sym (append_assoc xs p.0 q.0) ∙ (ap (λ l. l ++ q.0) p.1 ∙ q.1))
