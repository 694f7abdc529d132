-- Tests of which none finds a fault, and the first element that passes a test.
use Rattle.std.proofs.Common.{◌≡◌, ℕ, zero, suc, ◌+◌, Bool, true, false, not, cond, List, [], ◌∷◌, Some, None, Option, refl, sym, ap, ◌∙◌, slice_get, arith}
use Rattle.std.specs.Prelude.{Contains, find, option_map, position}
use Rattle.std.specs.List.{AllByRecursion, position_from}
use Rattle.std.proofs.lemmas.Iterator.Adapters.{position_from-zero}
use Rattle.drm_types.specs.Firsts.{when, first_of, first_failing}

-- where no test finds a fault, the first and the others find none
pub none_first : {F : Type 0} (o : Option F) (rest : List (Option F)) → first_of (o ∷ rest) ≡ None → (o ≡ None) × (first_of rest ≡ None)
none_first None rest e = (refl, e)
none_first (Some f) rest e = absurd (cc (e))

-- where no test finds a fault, the one at a place finds none
pub none_at : {F : Type 0} (tests : List (Option F)) (k : ℕ) (o : Option F) → first_of tests ≡ None → slice_get tests k ≡ Some o → o ≡ None
none_at [] k o none is = absurd (cc (is))
none_at (t ∷ ts) zero o none is = let same : t ≡ o = cc (is) in sym same ∙ (none_first t ts none).0
none_at (t ∷ ts) (suc k) o none is = none_at ts k o (none_first t ts none).1 is

-- a cause without its fault does not hold
pub none_when : {F : Type 0} (b : Bool) (f : F) → when (not b) f ≡ None → b ≡ true
none_when true f e = refl
none_when false f e = absurd (cc (e))

-- the first of one
pub first_of_one : {F : Type 0} (o : Option F) → first_of (o ∷ []) ≡ o
first_of_one None = refl
first_of_one (Some f) = refl

-- one test more that finds none
pub none_more : {F : Type 0} (o : Option F) (rest : List (Option F)) → o ≡ None → first_of rest ≡ None → first_of (o ∷ rest) ≡ None
none_more o rest none others = ap (λ t. first_of (t ∷ rest)) none ∙ others

-- a cause that does not hold has no fault
pub none_where : {F : Type 0} (b : Bool) (fault : F) → b ≡ false → when b fault ≡ None
none_where true fault e = absurd (cc (e))
none_where false fault e = refl

-- a cause without its fault does not hold
pub false_where : {F : Type 0} (b : Bool) (fault : F) → when b fault ≡ None → b ≡ false
false_where true fault e = absurd (cc (e))
false_where false fault e = refl

-- a fault that is made of nothing is none
pub none_of_map : {X F : Type 0} (f : X → F) (o : Option X) → option_map f o ≡ None → o ≡ None
none_of_map f None e = refl
none_of_map f (Some x) e = absurd (cc (e))

-- where no place is found behind n, each passes
passes_from : {X : Type 0} (p : X → Bool) (n : ℕ) (xs : List X) → position_from (λ x. not (p x)) n xs ≡ None → AllByRecursion (λ x. p x ≡ true) xs
passes_from p n [] none = tt
passes_from p n (x ∷ xs) none =
    elim (p x) as (λ b. cond (not b) (Some n) (position_from (λ y. not (p y)) (n + 1) xs) ≡ None → (b ≡ true) × AllByRecursion (λ y. p y ≡ true) xs) [
      | true ↦ λ rest. (refl, passes_from p (n + 1) xs rest)
      | false ↦ λ found. absurd (cc (found))
    ] none

-- where no element fails a test, each passes it
pub each_passes : {X F : Type 0} (p : X → Bool) (xs : List X) (fault : ℕ → F) → first_failing p xs fault ≡ None → AllByRecursion (λ x. p x ≡ true) xs
each_passes p xs fault none =
    passes_from p 0 xs (sym (position_from-zero (λ x. not (p x)) xs) ∙ none_of_map fault (position (λ x. not (p x)) xs) none)

-- what each passes, the one at a place passes
all_at : {X : Type 0} (p : X → Bool) (xs : List X) (k : ℕ) (x : X) → AllByRecursion (λ y. p y ≡ true) xs → slice_get xs k ≡ Some x → p x ≡ true
all_at p [] k x pass at = absurd (cc (at))
all_at p (y ∷ ys) zero x pass at = let same : y ≡ x = cc (at) in ap p (sym same) ∙ pass.0
all_at p (y ∷ ys) (suc k) x pass at = all_at p ys k x pass.1 at

-- so does the one at a place
pub passes_at : {X F : Type 0} (p : X → Bool) (xs : List X) (fault : ℕ → F) (k : ℕ) (x : X) → first_failing p xs fault ≡ None → slice_get xs k ≡ Some x → p x ≡ true
passes_at p xs fault k x none at = all_at p xs k x (each_passes p xs fault none) at

-- where nothing is found, no element passes the test
pub none_found : {X : Type 0} (p : X → Bool) (xs : List X) → find p xs ≡ None → AllByRecursion (λ x. p x ≡ false) xs
none_found p [] e = tt
none_found p (x ∷ xs) e =
    elim (p x) as (λ b. cond b (Some x) (find p xs) ≡ None → (b ≡ false) × AllByRecursion (λ y. p y ≡ false) xs) [
      | true ↦ λ found. absurd (cc (found))
      | false ↦ λ rest. (refl, none_found p xs rest)
    ] e

-- where no element passes the test, nothing is found
pub finds_none : {X : Type 0} (p : X → Bool) (xs : List X) → AllByRecursion (λ x. p x ≡ false) xs → find p xs ≡ None
finds_none p [] fails = refl
finds_none p (x ∷ xs) fails = ap (λ b. cond b (Some x) (find p xs)) fails.0 ∙ finds_none p xs fails.1

-- what is found is in the list and passes the test
pub find_found : {X : Type 0} (p : X → Bool) (xs : List X) (x : X) → find p xs ≡ Some x → Contains xs x × (p x ≡ true)
find_found p [] x e = absurd (cc (e))
find_found p (y ∷ ys) x e =
    elim (p y) as (λ b. p y ≡ b → cond b (Some y) (find p ys) ≡ Some x → Contains (y ∷ ys) x × (p x ≡ true)) [
      | true ↦ λ t is. let same : y ≡ x = cc (is) in ((0, omega arith, same), ap p (sym same) ∙ t)
      | false ↦ λ t is. let r = find_found p ys x is in ((suc r.0.0, omega (arith, r.0.1), r.0.2), r.1)
    ] refl e
