-- Texts that are put one behind another.
use Rattle.std.proofs.Common.{◌≡◌, ◌++◌, ℕ, List, ap, append_assoc, ◌∙◌}

-- a text behind one that stands behind another
pub behind : (old xs ys one two : List ℕ) → one ≡ old ++ xs → two ≡ one ++ ys → two ≡ old ++ (xs ++ ys)
behind old xs ys one two is_one is_two = is_two ∙ ap (λ (text : List ℕ). text ++ ys) is_one ∙ append_assoc old xs ys
