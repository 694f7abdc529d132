-- Lists that grow at their end.
use Rattle.std.proofs.Common.{◌≡◌, arith, Bool, true, false, List, [], ◌∷◌, ◌++◌, refl, ap, subst, length}

pub unit : {A : Type 0} → (xs : List A) → xs ++ [] ≡ xs
unit [] = refl
unit (x ∷ xs) = ap (λ ys. x ∷ ys) (unit xs)

pub one_more : {A : Type 0} → (xs : List A) (x : A) (ys : List A) → (xs ++ x ∷ []) ++ ys ≡ xs ++ x ∷ ys
one_more [] x ys = refl
one_more (z ∷ xs) x ys = ap (λ zs. z ∷ zs) (one_more xs x ys)

pub none_left : {A : Type 0} → (xs : List A) → length xs ≡ 0 → xs ≡ []
none_left [] e = refl
none_left (x ∷ xs) e = absurd (omega arith)

pub joined : {A : Type 0} → (xs ys zs : List A) → (xs ++ ys) ++ zs ≡ xs ++ (ys ++ zs)
joined [] ys zs = refl
joined (x ∷ xs) ys zs = ap (λ ws. x ∷ ws) (joined xs ys zs)

pub true_is_false : true ≡ false → ⊥
true_is_false e = subst Says e tt where
  Says : Bool → Type 0
  Says true = Unit {0}
  Says false = ⊥
