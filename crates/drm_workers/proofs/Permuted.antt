-- The numbers that calls have armed, where the calls change places.
use Rattle.std.proofs.Common.{◌≡◌, ◌<◌, ◌+◌, ◌==◌, ℕ, Bool, List, [], ◌∷◌, ◌++◌, arith, suc, refl, sym, ap, ◌∙◌, length, get_or, inl, inr, eq-eqb, ne_eqb, IsPermutation}
use Rattle.std.specs.Prelude.{if◌then◌else◌}
use Rattle.std.specs.List.{sum_by, remove}
use Rattle.std.proofs.lemmas.Bool.{cases_eq}
use Rattle.std.proofs.lemmas.List.Sums.{sum_by-cons}
use Rattle.std.proofs.lemmas.List.Sorted.{IsPermutation-refl, IsPermutation-sym, IsPermutation-trans, IsPermutation-cons, IsPermutation-remove, sum_by-IsPermutation}
use Rattle.drm_sched.specs.Marks.{MarkedDevice}
use Rattle.drm_workers.specs.Numbers.{armed_by, armings}

abbrev one_at : ℕ → ℕ → ℕ
one_at n x = if x == n then 1 else 0

-- how often the number stands in the list
abbrev times : ℕ → List ℕ → ℕ
times n xs = sum_by (one_at n) xs

itself : (n : ℕ) → one_at n n ≡ 1
itself n = ap (λ (b : Bool). if b then 1 else 0) (eq-eqb n n refl)

times_append : (n : ℕ) (xs ys : List ℕ) → times n (xs ++ ys) ≡ times n xs + times n ys
times_append n [] ys = let none : times n [] ≡ 0 = refl in omega (arith, none)
times_append n (x ∷ xs) ys = let h = times_append n xs ys in omega (arith, h, sum_by-cons (one_at n) x xs, sum_by-cons (one_at n) x (xs ++ ys))

-- a number that stands in a list has a place there
found : (n : ℕ) (xs : List ℕ) → 0 < times n xs → (i : ℕ) × (i < length xs) × (n ≡ get_or xs i n)
found n [] h = absurd (omega (arith, h))
found n (x ∷ xs) h = elim (cases_eq x n) [
  | inl same ↦ (0, omega arith, sym same)
  | inr apart ↦
      let none : one_at n x ≡ 0 = ap (λ (b : Bool). if b then 1 else 0) (ne_eqb x n apart) in
      let f = found n xs (omega (arith, h, none, sum_by-cons (one_at n) x xs)) in
      (suc f.0, (let lt = f.1 in omega (arith, lt)), f.2)
]

-- lists in which each number stands as often
as_often : (xs ys : List ℕ) → ((n : ℕ) → times n xs ≡ times n ys) → IsPermutation xs ys
as_often [] [] same = IsPermutation-refl []
as_often [] (y ∷ ys) same = absurd (let h = same y in omega (arith, h, itself y, sum_by-cons (one_at y) y ys))
as_often (x ∷ xs) ys same =
    let here : 0 < times x ys = let h = same x in omega (arith, h, itself x, sum_by-cons (one_at x) x xs) in
    let f = found x ys here in
    let out : IsPermutation ys (x ∷ remove ys f.0) = IsPermutation-remove ys f.0 x f.1 f.2 in
    let rest : IsPermutation xs (remove ys f.0) = as_often xs (remove ys f.0) (λ n.
    omega (arith, same n, sum_by-IsPermutation (one_at n) ys (x ∷ remove ys f.0) out, sum_by-cons (one_at n) x xs, sum_by-cons (one_at n) x (remove ys f.0))) in
    IsPermutation-trans (x ∷ xs) (x ∷ remove ys f.0) ys (IsPermutation-cons x xs (remove ys f.0) rest) (IsPermutation-sym ys (x ∷ remove ys f.0) out)

times_armed : (n : ℕ) (cs : List (MarkedDevice × MarkedDevice)) → times n (armings cs) ≡ sum_by (λ c. times n (armed_by c)) cs
times_armed n [] = refl
times_armed n (c ∷ cs) = times_append n (armed_by c) (armings cs) ∙ (let h = times_armed n cs in omega (arith, h, sum_by-cons (λ d. times n (armed_by d)) c cs))

pub armings_permuted : (cs ds : List (MarkedDevice × MarkedDevice)) → IsPermutation cs ds → IsPermutation (armings cs) (armings ds)
armings_permuted cs ds p = as_often (armings cs) (armings ds) (λ n. times_armed n cs ∙ (sym (sum_by-IsPermutation (λ c. times n (armed_by c)) cs ds p) ∙ sym (times_armed n ds)))

appended : (xs ys zs : List ℕ) → (xs ++ ys) ++ zs ≡ xs ++ (ys ++ zs)
appended [] ys zs = refl
appended (x ∷ xs) ys zs = ap (λ l. x ∷ l) (appended xs ys zs)

pub armings_append : (cs ds : List (MarkedDevice × MarkedDevice)) → armings (cs ++ ds) ≡ armings cs ++ armings ds
armings_append [] ds = refl
armings_append (c ∷ cs) ds = ap (λ l. armed_by c ++ l) (armings_append cs ds) ∙ sym (appended (armed_by c) (armings cs) (armings ds))
