-- What is left of the parts of a text, one after another.
use Rattle.std.proofs.Common.{◌≡◌, ◌+◌, ◌≤◌, length, ℕ, zero, suc, List, [], ◌∷◌, Option, Some, None, drop, get_or, refl, sym, ap, ◌∙◌, arith}
use Rattle.std.specs.Prelude.{IfNone, IfSome, unwrap_or}
use Rattle.std.specs.Borrow.{Bor}
use Rattle.drm_text.specs.Cut.{Cut}

behind_one : (xs : List (List ℕ)) (n : ℕ) (x : List ℕ) (rest : List (List ℕ)) → drop n xs ≡ x ∷ rest → drop (n + 1) xs ≡ rest
behind_one [] zero x rest is = absurd (cc (is))
behind_one [] (suc n) x rest is = absurd (cc (is))
behind_one (y ∷ xs) zero x rest is = cc (is)
behind_one (y ∷ xs) (suc n) x rest is =
    let next : suc n + 1 ≡ suc (n + 1) = omega arith in ap (λ (m : ℕ). drop m (y ∷ xs)) next ∙ behind_one xs n x rest is

behind_none : (xs : List (List ℕ)) (n : ℕ) → drop n xs ≡ [] → drop (n + 1) xs ≡ []
behind_none [] zero is = refl
behind_none [] (suc n) is =
    let next : suc n + 1 ≡ suc (n + 1) = omega arith in ap (λ (m : ℕ). drop m []) next
behind_none (y ∷ xs) zero is = absurd (cc (is))
behind_none (y ∷ xs) (suc n) is =
    let next : suc n + 1 ≡ suc (n + 1) = omega arith in ap (λ (m : ℕ). drop m (y ∷ xs)) next ∙ behind_none xs n is

first_of_rest : (xs : List (List ℕ)) (n : ℕ) (x : List ℕ) (rest : List (List ℕ)) → drop n xs ≡ x ∷ rest → x ≡ get_or xs n []
first_of_rest [] zero x rest is = absurd (cc (is))
first_of_rest [] (suc n) x rest is = absurd (cc (is))
first_of_rest (y ∷ xs) zero x rest is = cc (is)
first_of_rest (y ∷ xs) (suc n) x rest is = first_of_rest xs n x rest is

none_of_rest : (xs : List (List ℕ)) (n : ℕ) → drop n xs ≡ [] → [] ≡ get_or xs n []
none_of_rest [] zero is = refl
none_of_rest [] (suc n) is = refl
none_of_rest (y ∷ xs) zero is = absurd (cc (is))
none_of_rest (y ∷ xs) (suc n) is = none_of_rest xs n is

-- the next part was taken, if there was one
pub next_taken : (o : Option (Bor (List ℕ))) (old new : Cut) (all : List (List ℕ)) (k : ℕ)
    → IfSome o (λ part. (old.parts ≡ part.now ∷ new.parts) × (new.at ≡ old.at + length part.now + 1) × (length part.now ≤ 1048576) × (new.at ≤ 1048577)) → IfNone o ((old.parts ≡ []) × (new ≡ old)) → old.parts ≡ drop k all → new.parts ≡ drop (k + 1) all
next_taken (Some part) old new all k some none is = sym (behind_one all k part.now new.parts (sym is ∙ some.0))
next_taken None old new all k some none is = ap (λ (c : Cut). c.parts) none.1 ∙ none.0 ∙ sym (behind_none all k (sym is ∙ none.0))

-- and it stands at that place
pub part_at : (o : Option (Bor (List ℕ))) (old new : Cut) (all : List (List ℕ)) (k : ℕ) (d : Bor (List ℕ))
    → IfSome o (λ part. (old.parts ≡ part.now ∷ new.parts) × (new.at ≡ old.at + length part.now + 1) × (length part.now ≤ 1048576) × (new.at ≤ 1048577)) → IfNone o ((old.parts ≡ []) × (new ≡ old)) → old.parts ≡ drop k all → d.now ≡ []
    → (unwrap_or o d).now ≡ get_or all k []
part_at (Some part) old new all k d some none is empty = first_of_rest all k part.now new.parts (sym is ∙ some.0)
part_at None old new all k d some none is empty = empty ∙ none_of_rest all k (sym is ∙ none.0)
