-- A text that is put behind another.
use Rattle.std.proofs.Common.{◌≡◌, ℕ, List, ◌++◌, Ok, Err, Result, append_assoc, ap, ◌∙◌}
use Rattle.std.specs.Prelude.{OnOk}

-- what was put first, and then the rest
pub put_then : {A E : Type 0} (r : Result A E) (old mid new first rest : List ℕ) → mid ≡ old ++ first → OnOk r (new ≡ mid ++ rest) → OnOk r (new ≡ old ++ (first ++ rest))
put_then (Ok x) old mid new first rest one two = two ∙ (ap (λ (t : List ℕ). t ++ rest) one ∙ append_assoc old first rest)
put_then (Err e) old mid new first rest one two = tt

-- two texts that were put
pub put_more : (old mid new first rest : List ℕ) → mid ≡ old ++ first → new ≡ mid ++ rest → new ≡ old ++ (first ++ rest)
put_more old mid new first rest one two = two ∙ (ap (λ (t : List ℕ). t ++ rest) one ∙ append_assoc old first rest)
