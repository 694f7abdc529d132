-- Texts that are added one behind the other.
use Rattle.std.proofs.Common.{◌≡◌, ℕ, List, ◌++◌, Ok, Err, Result, append_assoc, ap, ◌∙◌}
use Rattle.std.specs.Prelude.{OnOk}

-- one more text
pub add_next : (old mid new one two : List ℕ) → mid ≡ old ++ one → new ≡ mid ++ two → new ≡ old ++ (one ++ two)
add_next old mid new one two first next = next ∙ ap (λ (t : List ℕ). t ++ two) first ∙ append_assoc old one two

-- and a last one, which may be told otherwise
pub add_then : {A E : Type 0} (r : Result A E) (old mid new one two put last : List ℕ) → mid ≡ old ++ (one ++ two) → put ≡ last → OnOk r (new ≡ mid ++ put)
    → OnOk r (new ≡ old ++ (one ++ (two ++ last)))
add_then (Ok x) old mid new one two put last first is next =
    next ∙ ap (λ (t : List ℕ). mid ++ t) is ∙ ap (λ (t : List ℕ). t ++ last) first ∙ append_assoc old (one ++ two) last
    ∙ ap (λ (t : List ℕ). old ++ t) (append_assoc one two last)
add_then (Err e) old mid new one two put last first is next = tt
