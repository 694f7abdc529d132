-- What stands where in a list.
use Rattle.std.proofs.Common.{◌≡◌, ℕ, zero, suc, ◌+◌, ◌<◌, List, [], ◌∷◌, ◌++◌, length, map, take, replicate, get_or, Option, Some, None, Bor, refl, sym, ap, ◌∙◌, inl, inr, ◌⊎◌, arith, slice_get}
use Rattle.std.specs.Prelude.{Contains}
use Rattle.std.specs.List.{enumerate_from}
use Rattle.std.specs.Option.{option_copied}
use Rattle.std.specs.Slice.{IsItemAt}
use Rattle.std.proofs.lemmas.Bool.{ltb-true, ltb-false}
use Rattle.std.proofs.lemmas.Option.{slice_get_within, slice_get_past, slice_get-get_or, get_or_from_slice_get}

-- what stands at a place within the list
pub stands_within : {X : Type 0} (xs : List X) (i : ℕ) → i < length xs → (x : X) × (slice_get xs i ≡ Some x)
stands_within [] i lt = absurd (omega (arith, lt))
stands_within (x ∷ xs) zero lt = (x, refl)
stands_within (x ∷ xs) (suc i) lt = stands_within xs i (omega (arith, lt))

-- what an index gave stands there
pub at_index : {X : Type 0} (xs : List X) (i : ℕ) (x : X) → x ≡ get_or xs i x → i < length xs → slice_get xs i ≡ Some x
at_index xs i x is lt = slice_get-get_or xs i x lt ∙ ap (λ z. Some z) (sym is)

-- and what is lent of a place
pub lent_is : {X : Type 0} (xs : List X) (i : ℕ) (r : Option (Bor X)) → IsItemAt xs i r → option_copied r ≡ slice_get xs i
lent_is xs i None is = sym (slice_get_past xs i (ltb-false i (length xs) (sym is.0)))
lent_is xs i (Some x) is = sym (slice_get-get_or xs i x.now (ltb-true i (length xs) (sym is.0)) ∙ ap Some (sym is.1))

-- what stands at a place is in the list
pub contains_at : {X : Type 0} (xs : List X) (k : ℕ) (x : X) → slice_get xs k ≡ Some x → Contains xs x
contains_at xs k x is = (k, slice_get_within xs k x is, get_or_from_slice_get xs k x x is)

-- what is in the list stands at a place
pub place_of : {X : Type 0} (xs : List X) (x : X) → Contains xs x → (k : ℕ) × (slice_get xs k ≡ Some x)
place_of xs x c = (c.0, slice_get-get_or xs c.0 x c.1 ∙ ap Some c.2)

-- two lists that have the same at each place are one
pub list_ext : {X : Type 0} (xs ys : List X) → length xs ≡ length ys → ((k : ℕ) (x : X) → slice_get xs k ≡ Some x → slice_get ys k ≡ Some x) → xs ≡ ys
list_ext [] [] count each = refl
list_ext [] (y ∷ ys) count each = absurd (omega (arith, count))
list_ext (x ∷ xs) [] count each = absurd (omega (arith, count))
list_ext (x ∷ xs) (y ∷ ys) count each =
    let first : y ≡ x = (let at = each 0 x refl in cc (at)) in
    let rest : xs ≡ ys = list_ext xs ys (omega (arith, count)) (λ k z at. each (suc k) z at) in
    ap (λ z. z ∷ xs) (sym first) ∙ ap (λ zs. y ∷ zs) rest

-- what stands in a mapped list comes from what stands in the list
pub from_map : {X Y : Type 0} (v : X → Y) (xs : List X) (k : ℕ) (y : Y) → slice_get (map v xs) k ≡ Some y
    → (x : X) × (slice_get xs k ≡ Some x) × (y ≡ v x)
from_map v [] k y is = absurd (cc (is))
from_map v (x ∷ xs) zero y is = (x, refl, cc (is))
from_map v (x ∷ xs) (suc k) y is = from_map v xs k y is

-- and the other way round
pub to_map : {X Y : Type 0} (v : X → Y) (xs : List X) (k : ℕ) (x : X) → slice_get xs k ≡ Some x → slice_get (map v xs) k ≡ Some (v x)
to_map v [] k x is = absurd (cc (is))
to_map v (y ∷ xs) zero x is = let same : y ≡ x = cc (is) in ap (λ z. Some (v z)) same
to_map v (y ∷ xs) (suc k) x is = to_map v xs k x is

-- the same for each element
pub map_to_same : {X Y : Type 0} (y : Y) (xs : List X) → map (λ x. y) xs ≡ replicate (length xs) y
map_to_same y [] = refl
map_to_same y (x ∷ xs) = ap (λ ys. y ∷ ys) (map_to_same y xs)

-- what stands in a list stands there with one more at its end
pub get_before_push : {X : Type 0} (xs : List X) (y : X) (k : ℕ) (x : X) → slice_get xs k ≡ Some x → slice_get (xs ++ y ∷ []) k ≡ Some x
get_before_push [] y k x is = absurd (cc (is))
get_before_push (z ∷ zs) y zero x is = is
get_before_push (z ∷ zs) y (suc k) x is = get_before_push zs y k x is

-- what stands in a list with one more at its end
pub get_push_cases : {X : Type 0} (xs : List X) (y : X) (k : ℕ) (x : X) → slice_get (xs ++ y ∷ []) k ≡ Some x
    → (slice_get xs k ≡ Some x) ⊎ ((k ≡ length xs) × (x ≡ y))
get_push_cases [] y zero x is = inr (refl, let same : y ≡ x = cc (is) in sym same)
get_push_cases [] y (suc k) x is = absurd (cc (is))
get_push_cases (z ∷ zs) y zero x is = inl is
get_push_cases (z ∷ zs) y (suc k) x is =
    elim (get_push_cases zs y k x is) [ inl old ↦ inl old | inr new ↦ inr (ap suc new.0, new.1) ]

-- what stands in a list that is numbered
pub get_numbered : {X : Type 0} (xs : List X) (n k : ℕ) (x : X) → slice_get xs k ≡ Some x → slice_get (enumerate_from n xs) k ≡ Some (n + k, x)
get_numbered [] n k x is = absurd (cc (is))
get_numbered (y ∷ xs) n zero x is =
    let same : y ≡ x = cc (is) in
    let number : n ≡ n + 0 = omega arith in ap (λ z. Some (n, z)) same ∙ ap (λ m. Some (m, x)) number
get_numbered (y ∷ xs) n (suc k) x is =
    let number : (n + 1) + k ≡ n + suc k = omega arith in get_numbered xs (n + 1) k x is ∙ ap (λ m. Some (m, x)) number

-- and in the first so many of a list
pub get_take : {X : Type 0} (xs : List X) (n k : ℕ) → k < n → slice_get (take n xs) k ≡ slice_get xs k
get_take [] zero k lt = absurd (omega (arith, lt))
get_take [] (suc n) k lt = refl
get_take (x ∷ xs) zero k lt = absurd (omega (arith, lt))
get_take (x ∷ xs) (suc n) zero lt = refl
get_take (x ∷ xs) (suc n) (suc k) lt = get_take xs n k (omega (arith, lt))
