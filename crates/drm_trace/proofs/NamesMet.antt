-- Names that were met, and one more.
use Rattle.std.proofs.Common.{◌≡◌, ℕ, ◌+◌, ◌<◌, ◌≤◌, ◌==◌, Bool, true, false, cond, List, [], ◌∷◌, ◌++◌, length, Option, Some, None, refl, sym, ap, ◌∙◌, arith, inl, inr}
use Rattle.std.specs.Prelude.{nat_eq, nat_lt}
use Rattle.std.proofs.lemmas.Bool.{and_parts, cases_lt, eq-eqb, eqb-true, le-ltb, lt-ltb, ne_eqb}
use Rattle.std.proofs.lemmas.List.{length_push}
use Rattle.std.proofs.lemmas.List.Folds.{position_or_len_push}
use Rattle.std.proofs.lemmas.List.Sums.{prefix_len-le-length}
use Rattle.drm_trace.specs.Names.{is_pair, number_in, placed_in, with_name}

-- names that are one are the same
pair_is : (a b : ℕ × ℕ) → is_pair a b ≡ true → a ≡ b
pair_is a b e =
    let parts = and_parts (nat_eq a.0 b.0) (nat_eq a.1 b.1) e in
    ap (λ (x : ℕ). (x, a.1)) (eqb-true a.0 b.0 parts.0) ∙ ap (λ (y : ℕ). (b.0, y)) (eqb-true a.1 b.1 parts.1)

pub number_within : (names : List (ℕ × ℕ)) (name : ℕ × ℕ) → number_in names name ≤ length names
number_within names name = prefix_len-le-length _ names

placed_here : (names : List (ℕ × ℕ)) (name : ℕ × ℕ) → number_in names name < length names → placed_in names name ≡ Some (number_in names name)
placed_here names name lt = rw (lt-ltb (number_in names name) (length names) lt) refl

placed_nowhere : (names : List (ℕ × ℕ)) (name : ℕ × ℕ) → length names ≤ number_in names name → placed_in names name ≡ None
placed_nowhere names name le = rw (le-ltb (number_in names name) (length names) le) refl

-- a name that was not met has the next number
pub number_new : (names : List (ℕ × ℕ)) (name : ℕ × ℕ) → placed_in names name ≡ None → number_in names name ≡ length names
number_new names name none = elim (cases_lt (number_in names name) (length names)) [
  | inl lt ↦ let some = placed_here names name lt in absurd (cc (none, some))
  | inr le ↦ let within = number_within names name in omega arith
]

-- a name that was met has its number, and adds nothing
pub number_known : (names : List (ℕ × ℕ)) (name : ℕ × ℕ) (n : ℕ) → placed_in names name ≡ Some n → (number_in names name ≡ n) × (with_name names name ≡ names)
number_known names name n some = elim (cases_lt (number_in names name) (length names)) [
  | inl lt ↦
      let here = placed_here names name lt in
      let same : number_in names name ≡ n = cc (here, some) in
      (same, rw (lt-ltb (number_in names name) (length names) lt) refl)
  | inr le ↦ let none = placed_nowhere names name le in absurd (cc (none, some))
]

-- a new one comes last
pub name_new : (names : List (ℕ × ℕ)) (name : ℕ × ℕ) → placed_in names name ≡ None → with_name names name ≡ names ++ name ∷ []
name_new names name none =
    let next = number_new names name none in rw (le-ltb (number_in names name) (length names) (omega arith)) refl

-- where a name stands once another has come behind the names
pushed : (names : List (ℕ × ℕ)) (name other : ℕ × ℕ)
    → number_in (names ++ name ∷ []) other ≡ cond (number_in names other == length names) (length names + cond (is_pair name other) 0 1) (number_in names other)
pushed names name other = position_or_len_push (λ met. is_pair met other) names name

behind_all : (names : List (ℕ × ℕ)) (name other : ℕ × ℕ) (same : Bool) → is_pair name other ≡ same → length names ≤ number_in names other
    → placed_in (names ++ name ∷ []) other ≡ cond same (Some (length names)) None
behind_all names name other true is le =
    let within = number_within names other in
    let place : number_in (names ++ name ∷ []) other ≡ length names + 0 = pushed names name other ∙ rw (eq-eqb (number_in names other) (length names) (omega arith), is) refl in
    let here = placed_here (names ++ name ∷ []) other (omega (arith, place, length_push names name)) in
    here ∙ ap (λ (n : ℕ). Some n) (omega (arith, place))
behind_all names name other false is le =
    let within = number_within names other in
    let place : number_in (names ++ name ∷ []) other ≡ length names + 1 = pushed names name other ∙ rw (eq-eqb (number_in names other) (length names) (omega arith), is) refl in
    placed_nowhere (names ++ name ∷ []) other (omega (arith, place, length_push names name))

before_all : (names : List (ℕ × ℕ)) (name other : ℕ × ℕ) → number_in names other < length names → placed_in (names ++ name ∷ []) other ≡ placed_in names other
before_all names name other lt =
    let differs : number_in names other ≡ length names → ⊥ = λ same. omega arith in
    let place : number_in (names ++ name ∷ []) other ≡ number_in names other = pushed names name other ∙ rw (ne_eqb (number_in names other) (length names) differs) refl in
    let here = placed_here (names ++ name ∷ []) other (omega (arith, place, length_push names name)) in
    here ∙ ap (λ (n : ℕ). Some n) place ∙ sym (placed_here names other lt)

-- the places of names, once a new one has come behind them
pub placed_push : (names : List (ℕ × ℕ)) (name other : ℕ × ℕ) → placed_in names name ≡ None
    → placed_in (names ++ name ∷ []) other ≡ cond (is_pair name other) (Some (length names)) (placed_in names other)
placed_push names name other none = by_test (is_pair name other) refl
  where
    by_test : (same : Bool) → is_pair name other ≡ same → placed_in (names ++ name ∷ []) other ≡ cond same (Some (length names)) (placed_in names other)
    by_test true is =
        let one : number_in names name ≡ number_in names other = ap (number_in names) (pair_is name other is) in
        let next = number_new names name none in
        behind_all names name other true is (omega (arith, one, next))
    by_test false is = elim (cases_lt (number_in names other) (length names)) [
      | inl lt ↦ before_all names name other lt
      | inr le ↦ behind_all names name other false is le ∙ sym (placed_nowhere names other le)
    ]

-- the numbers of names, once a new one has come behind them
pub numbers_follow : (names : List (ℕ × ℕ)) (name other : ℕ × ℕ) (number : ℕ) (old new : Option ℕ) → placed_in names name ≡ None → number ≡ length names
    → old ≡ placed_in names other → new ≡ cond (is_pair name other) (Some number) old → new ≡ placed_in (names ++ name ∷ []) other
numbers_follow names name other number old new none is are puts =
    puts ∙ ap (λ (n : ℕ). cond (is_pair name other) (Some n) old) is ∙ ap (λ (o : Option ℕ). cond (is_pair name other) (Some (length names)) o) are
    ∙ sym (placed_push names name other none)
