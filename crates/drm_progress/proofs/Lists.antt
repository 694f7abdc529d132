-- Elements of lists, and tests of options.
use Rattle.std.proofs.Common.{◌≡◌, ℕ, zero, suc, ◌+◌, ◌<◌, Bool, true, false, cond, ◌||◌, ◌&&◌, List, [], ◌∷◌, ◌++◌, take, Some, None, Option, refl, sym, ap, subst, ◌∙◌, inl, inr, arith, slice_get, Contains}
use Rattle.std.specs.Prelude.{is_none}
use Rattle.std.specs.List.{list_all, filter, enumerate_from}
use Rattle.std.proofs.lemmas.Bool.{cases_Bool}
use Rattle.std.proofs.lemmas.Option.{same_Some}
use Rattle.drm_types.specs.Firsts.{first}

-- the first element is in the list
pub first_contained : (xs : List ℕ) (f : ℕ) → first xs ≡ Some f → Contains xs f
first_contained [] f is = absurd (cc (is))
first_contained (x ∷ rest) f is = let same : x ≡ f = cc (is) in (0, omega arith, same)

pub none_is : {X : Type 0} (o : Option X) → is_none o ≡ true → o ≡ None
none_is None is = refl
none_is (Some x) is = absurd (let never : false ≡ true = is in cc (never))

pub or_true : (a : Bool) → (a || true) ≡ true
or_true true = refl
or_true false = refl

-- a test that the first j pass, filtered as one likes
pub all_before : {X : Type 0} (p q : (ℕ × X) → Bool) (xs : List X) (from j : ℕ) → ((k : ℕ) (x : X) → k < j → slice_get xs k ≡ Some x → p (from + k, x) ≡ true)
    → list_all p (filter q (take j (enumerate_from from xs))) ≡ true
all_before p q [] from zero each = refl
all_before p q [] from (suc j) each = refl
all_before p q (x ∷ rest) from zero each = refl
all_before {X} p q (x ∷ rest) from (suc j) each =
    by_kept (q (from, x))
    (all_before p q rest (from + 1) j (λ k e less at. let same : from + 1 + k ≡ from + suc k = omega arith in subst (λ n. p (n, e) ≡ true) (sym same) (each (suc k) e (omega (arith, less)) at)))
  where
    behind : List (ℕ × X)
    behind = filter q (take j (enumerate_from (from + 1) rest))

    first_passes : p (from, x) ≡ true
    first_passes = let same : from + 0 ≡ from = omega arith in subst (λ n. p (n, x) ≡ true) same (each 0 x (omega arith) refl)

    by_kept : (kept : Bool) → list_all p behind ≡ true → list_all p (cond kept ((from, x) ∷ behind) behind) ≡ true
    by_kept true others = ap (λ b. b && list_all p behind) first_passes ∙ others
    by_kept false others = others

pub all_append : {X : Type 0} (p : X → Bool) (xs ys : List X) → list_all p xs ≡ true → list_all p ys ≡ true → list_all p (xs ++ ys) ≡ true
all_append p [] ys one two = two
all_append p (x ∷ xs) ys one two =
    elim (cases_Bool (p x)) [
      | inl passes ↦ ap (λ b. b && list_all p (xs ++ ys)) passes ∙ all_append p xs ys (sym (ap (λ b. b && list_all p xs) passes) ∙ one) two
      | inr fails ↦ absurd (let never : false ≡ true = sym (ap (λ b. b && list_all p xs) fails) ∙ one in cc (never))
    ]

-- the first that passes a test, by its place
pub first_passing : {X : Type 0} (q : (ℕ × X) → Bool) (xs : List X) (from j : ℕ) (s : X) → slice_get xs j ≡ Some s → q (from + j, s) ≡ true
    → ((k : ℕ) (e : X) → k < j → slice_get xs k ≡ Some e → q (from + k, e) ≡ false) → first (filter q (enumerate_from from xs)) ≡ Some (from + j, s)
first_passing q [] from j s at passes fail = absurd (cc (at))
first_passing q (x ∷ rest) from zero s at passes fail =
    let same : x ≡ s = cc (at) in
    let place : from + 0 ≡ from = omega arith in
    let is : q (from, x) ≡ true = subst (λ n. q (n, x) ≡ true) place (subst (λ r. q (from + 0, r) ≡ true) (sym same) passes) in
    ap (λ b. first (cond b ((from, x) ∷ filter q (enumerate_from (from + 1) rest)) (filter q (enumerate_from (from + 1) rest)))) is
    ∙ ap (λ r. Some (from, r)) same ∙ ap (λ n. Some (n, s)) (sym place)
first_passing q (x ∷ rest) from (suc j) s at passes fail =
    let place : from + 0 ≡ from = omega arith in
    let not_here : q (from, x) ≡ false = subst (λ n. q (n, x) ≡ false) place (fail 0 x (omega arith) refl) in
    let further : from + 1 + j ≡ from + suc j = omega arith in
    ap (λ b. first (cond b ((from, x) ∷ filter q (enumerate_from (from + 1) rest)) (filter q (enumerate_from (from + 1) rest)))) not_here
    ∙ first_passing q rest (from + 1) j s at (subst (λ n. q (n, s) ≡ true) (sym further) passes)
    (λ k e less there. let on : from + 1 + k ≡ from + suc k = omega arith in subst (λ n. q (n, e) ≡ false) (sym on) (fail (suc k) e (omega (arith, less)) there))
    ∙ ap (λ n. Some (n, s)) further

-- where the first that passes a test stands
pub place_of_first : {X : Type 0} (q : (ℕ × X) → Bool) (xs : List X) (from : ℕ) (n : ℕ × X) → first (filter q (enumerate_from from xs)) ≡ Some n
    → (k : ℕ) × (n.0 ≡ from + k) × (slice_get xs k ≡ Some n.1) × (q n ≡ true)
place_of_first q [] from n is = absurd (cc (is))
place_of_first {X} q (x ∷ rest) from n is = by_test (q (from, x)) refl is (place_of_first q rest (from + 1) n)
  where
    behind : List (ℕ × X)
    behind = filter q (enumerate_from (from + 1) rest)

    by_test : (b : Bool) → q (from, x) ≡ b → first (cond b ((from, x) ∷ behind) behind) ≡ Some n
        → (first behind ≡ Some n → (k : ℕ) × (n.0 ≡ from + 1 + k) × (slice_get rest k ≡ Some n.1) × (q n ≡ true))
        → (k : ℕ) × (n.0 ≡ from + k) × (slice_get (x ∷ rest) k ≡ Some n.1) × (q n ≡ true)
    by_test true passes some further =
        let same = same_Some {A = ℕ × X} (from, x) n some in
        let place : from ≡ n.0 = ap (λ (m : ℕ × X). m.0) same in
        (0, omega (arith, place), ap (λ (m : ℕ × X). Some m.1) same, subst (λ (m : ℕ × X). q m ≡ true) same passes)
    by_test false fails some further =
        let (k, place, at, passes) = further some in (suc k, omega (arith, place), at, passes)
