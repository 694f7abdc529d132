-- The first of a list that is found.
use Rattle.std.proofs.Common.{◌≡◌, ℕ, zero, suc, ◌<◌, Bool, true, false, cond, List, [], ◌∷◌, map, Some, None, refl, ap, ◌∙◌, arith, slice_get}
use Rattle.std.specs.Prelude.{find, option_map}
use Rattle.drm_types.specs.Firsts.{first}

-- the first that is found, and that none is found
pub find_at : {X : Type 0} (p : X → Bool) (xs : List X) (k : ℕ) (x : X) → slice_get xs k ≡ Some x → p x ≡ true
    → ((i : ℕ) (y : X) → i < k → slice_get xs i ≡ Some y → p y ≡ false) → find p xs ≡ Some x
find_at p [] k x at is before = absurd (cc (at))
find_at p (y ∷ ys) zero x at is before =
    let same : y ≡ x = cc (at) in ap (λ t. cond t (Some y) (find p ys)) (ap p same ∙ is) ∙ ap (λ z. Some z) same
find_at p (y ∷ ys) (suc k) x at is before =
    ap (λ t. cond t (Some y) (find p ys)) (before 0 y (omega arith) refl) ∙ find_at p ys k x at is (λ i z lt. before (suc i) z (omega (arith, lt)))

pub find_none : {X : Type 0} (p : X → Bool) (xs : List X) → ((i : ℕ) (y : X) → slice_get xs i ≡ Some y → p y ≡ false) → find p xs ≡ None
find_none p [] each = refl
find_none p (y ∷ ys) each = ap (λ t. cond t (Some y) (find p ys)) (each 0 y refl) ∙ find_none p ys (λ i z. each (suc i) z)

pub first_map : {X Y : Type 0} (f : X → Y) (xs : List X) → first (map f xs) ≡ option_map f (first xs)
first_map f [] = refl
first_map f (x ∷ xs) = refl
