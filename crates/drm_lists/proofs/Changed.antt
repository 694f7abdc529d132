-- Lists of which one element changes.
use Rattle.std.proofs.Common.{◌≡◌, ◌≢◌, ℕ, zero, suc, ◌<◌, List, [], ◌∷◌, length, set, Some, refl, sym, ap, subst, ◌∙◌, inl, inr, ◌⊎◌, arith, slice_get}
use Rattle.std.proofs.lemmas.Bool.{cases_eq}

-- what stands at the changed place
pub get_set_same : {X : Type 0} (xs : List X) (i : ℕ) (x y : X) → slice_get xs i ≡ Some x → slice_get (set xs i y) i ≡ Some y
get_set_same [] i x y is = absurd (cc (is))
get_set_same (z ∷ xs) zero x y is = refl
get_set_same (z ∷ xs) (suc i) x y is = get_set_same xs i x y is

pub get_set_within : {X : Type 0} (xs : List X) (i : ℕ) (y : X) → i < length xs → slice_get (set xs i y) i ≡ Some y
get_set_within [] i y lt = absurd (omega (arith, lt))
get_set_within (x ∷ xs) zero y lt = refl
get_set_within (x ∷ xs) (suc i) y lt = get_set_within xs i y (omega (arith, lt))

-- it is the new element
pub get_set_is : {X : Type 0} (xs : List X) (i : ℕ) (x y z : X) → slice_get xs i ≡ Some x → slice_get (set xs i y) i ≡ Some z → z ≡ y
get_set_is [] i x y z at is = absurd (cc (at))
get_set_is (w ∷ xs) zero x y z at is = cc (is)
get_set_is (w ∷ xs) (suc i) x y z at is = get_set_is xs i x y z at is

-- what stands at other places
pub get_set_other : {X : Type 0} (xs : List X) (i k : ℕ) (y : X) → k ≢ i → slice_get (set xs i y) k ≡ slice_get xs k
get_set_other [] i k y apart = refl
get_set_other (x ∷ xs) zero zero y apart = absurd (apart refl)
get_set_other (x ∷ xs) zero (suc k) y apart = refl
get_set_other (x ∷ xs) (suc i) zero y apart = refl
get_set_other (x ∷ xs) (suc i) (suc k) y apart = get_set_other xs i k y (λ e. apart (ap suc e))

-- what stands somewhere after a change is the new element, or stood there before
pub get_set_cases : {X : Type 0} (xs : List X) (i k : ℕ) (x y z : X) → slice_get xs i ≡ Some x → slice_get (set xs i y) k ≡ Some z
    → ((k ≡ i) × (z ≡ y)) ⊎ ((k ≢ i) × (slice_get xs k ≡ Some z))
get_set_cases xs i k x y z at is =
    elim (cases_eq k i) [
      | inl same ↦
          let here : slice_get (set xs i y) k ≡ Some y = subst (λ n. slice_get (set xs i y) n ≡ Some y) (sym same) (get_set_same xs i x y at) in
          inl (same, cc (here, is))
      | inr apart ↦ inr (apart, sym (get_set_other xs i k y apart) ∙ is)
    ]

-- a write of what stands there changes nothing
pub set_same : {X : Type 0} (xs : List X) (i : ℕ) (x : X) → slice_get xs i ≡ Some x → set xs i x ≡ xs
set_same [] i x is = refl
set_same (y ∷ ys) zero x is = let same : y ≡ x = cc (is) in ap (λ z. z ∷ ys) (sym same)
set_same (y ∷ ys) (suc i) x is = ap (λ zs. y ∷ zs) (set_same ys i x is)
