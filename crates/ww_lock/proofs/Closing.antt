-- A board is taken apart, and what was at home comes back.
use Rattle.std.proofs.Common.{◌≡◌, ◌≢◌, ℕ, ◌+◌, ◌<◌, ◌≤◌, zero, suc, List, [], ◌∷◌, ◌++◌, length, length-append, get_or, set, sym, refl, ap, ◌∙◌, subst, arith, Bool, false, map}
use Rattle.std.specs.Prelude as plain
use Rattle.std.proofs.lemmas.Bool.{false≢true}
use Rattle.std.specs.Prelude.{Some, None}
use mathlib.Core.Logic.{dite}
use mathlib.Core.Option.{some, none, some-injective, some-ne-none}
use native.Mathlib.Decide.{ℕ_discrete}
use lib.ListN.{get_elem?}
use Rattle.atomic_table.specs.Table.{State, Final, Seen}
use Rattle.atomic_table.proofs.Lists.{at_map, at_last}
use Rattle.ww_lock.specs.declared.board.LockView.{LockView}
use Rattle.ww_lock.specs.declared.board.PivotView.{PivotView}
use Rattle.ww_lock.specs.declared.board.View.{View}
use Rattle.ww_lock.specs.declared.board.Slot.{Slot}
use Rattle.ww_lock.specs.declared.board.Slot.TheVariants.{Pivot, Value}
use Rattle.ww_lock.specs.Facts.{Facts}
use Rattle.ww_lock.specs.Rule.{In, At, Keeps, looked_only, lock_of, pivot_of}
use Rattle.ww_lock.specs.Lifetime.{FitsAll, HasAll, AreHome, IsPivot}
use Rattle.ww_lock.proofs.Lists.{same_view}
use Rattle.ww_lock.proofs.Sharing.{others_spent, seen_by_all}
use Rattle.ww_lock.proofs.Trying.{value_or}
use Rattle.ww_lock.proofs.Finding.{below}

at_get : (l : List ℕ) (i n : ℕ) → get_elem? l i ≡ some n → get_or l i 0 ≡ n
at_get [] i n e = absurd (some-ne-none n (sym e))
at_get (x ∷ xs) zero n e = some-injective x n e
at_get (x ∷ xs) (suc i) n e = at_get xs i n e

abbrev pub pivot_or : {P X T : Type 0} → P → Slot P X T → P
pivot_or d (Pivot p) = p
pivot_or d s = d

abbrev pub first_pivot : {P X T : Type 0} → P → List (ℕ × Slot P X T) → P
first_pivot d [] = d
first_pivot d (p ∷ ps) = pivot_or d p.1

-- each value that came back stands in the slot of its place, whose word was 0
abbrev pub Back : {P X T : Type 0} → List ℕ → List (Slot P X T) → List (plain.Option X) → Type 0
Back {P} {X} {T} ws xs out = (i : ℕ) (x : X) → get_elem? out i ≡ some (Some x) → (get_elem? xs (i + 1) ≡ some (Value x)) × (get_elem? ws (i + 2) ≡ some 0)

pub more_back : {P X T : Type 0} (ws : List ℕ) (xs : List (Slot P X T)) (out : List (plain.Option X)) (b : ℕ) (o : plain.Option X) → length out ≡ b → Back ws xs out
    → ((x : X) → o ≡ Some x → (get_elem? xs (b + 1) ≡ some (Value x)) × (get_elem? ws (b + 2) ≡ some 0)) → Back ws xs (out ++ o ∷ [])
more_back {P} {X} {T} ws xs out b o len back here i x e = dite (ℕ_discrete i b)
    (λ same. subst (λ k. (get_elem? xs (k + 1) ≡ some (Value x)) × (get_elem? ws (k + 2) ≡ some 0)) (sym same)
    (here x (some-injective o (Some x) (sym (at_last out o b len) ∙ (ap (get_elem? (out ++ o ∷ [])) (sym same) ∙ e)))))
    (λ ne. back i x (other out i o (Some x) (λ q. ne (q ∙ len)) e)) where
      other : {A : Type 0} (l : List A) (j : ℕ) (a c : A) → j ≢ length l → get_elem? (l ++ a ∷ []) j ≡ some c → get_elem? l j ≡ some c
      other [] zero a c ne h = absurd (ne refl)
      other [] (suc j) a c ne h = h
      other (y ∷ ys) zero a c ne h = h
      other (y ∷ ys) (suc j) a c ne h = other ys j a c (λ q. ne (ap suc q)) h

pub back_same : {P X T : Type 0} (ws ws' : List ℕ) (xs xs' : List (Slot P X T)) (out : List (plain.Option X)) → ws ≡ ws' → xs ≡ xs' → Back ws xs out → Back ws' xs' out
back_same ws ws' xs xs' out d e back i x at = let b = back i x at in (ap (λ l. get_elem? l (i + 1)) (sym e) ∙ b.0, ap (λ l. get_elem? l (i + 2)) (sym d) ∙ b.1)

-- each place whose word is 0 has its value
abbrev pub Whole : {P X T : Type 0} → List ℕ → List (Slot P X T) → List (plain.Option X) → Type 0
Whole {P} {X} {T} ws xs out = (i : ℕ) → i < length out → get_elem? ws (i + 2) ≡ some 0 → (x : X) × (get_elem? out i ≡ some (Some x)) × (get_elem? xs (i + 1) ≡ some (Value x))

pub more_whole : {P X T : Type 0} (ws : List ℕ) (xs : List (Slot P X T)) (out : List (plain.Option X)) (b : ℕ) (o : plain.Option X) → length out ≡ b → Whole ws xs out
    → (get_elem? ws (b + 2) ≡ some 0 → (x : X) × (o ≡ Some x) × (get_elem? xs (b + 1) ≡ some (Value x))) → Whole ws xs (out ++ o ∷ [])
more_whole {P} {X} {T} ws xs out b o len whole here i low at_zero = dite (ℕ_discrete i b)
    (λ same. let it = here (subst (λ k. get_elem? ws (k + 2) ≡ some 0) same at_zero) in (
      it.0,
      ap (get_elem? (out ++ o ∷ [])) same ∙ (at_last out o b len ∙ ap some it.1),
      subst (λ k. get_elem? xs (k + 1) ≡ some (Value it.0)) (sym same) it.2,
    ))
    (λ ne. let q = length-append out (o ∷ []) in let it = whole i (omega arith) at_zero in (it.0, before out o i (omega arith) ∙ it.1, it.2)) where
      before : {A : Type 0} (l : List A) (a : A) (j : ℕ) → j < length l → get_elem? (l ++ a ∷ []) j ≡ get_elem? l j
      before [] a j low = absurd (omega arith)
      before (y ∷ ys) a zero low = refl
      before (y ∷ ys) a (suc j) low = before ys a j (omega arith)

pub whole_same : {P X T : Type 0} (ws ws' : List ℕ) (xs xs' : List (Slot P X T)) (out : List (plain.Option X)) → ws ≡ ws' → xs ≡ xs' → Whole ws xs out → Whole ws' xs' out
whole_same ws ws' xs xs' out d e whole = subst (λ l. Whole ws' l out) e (subst (λ l. Whole l xs out) d whole)

-- a place within a list has its number
at_within : (l : List ℕ) (i : ℕ) → i < length l → get_elem? l i ≡ some (get_or l i 0)
at_within [] i low = absurd (omega arith)
at_within (x ∷ xs) zero low = refl
at_within (x ∷ xs) (suc i) low = at_within xs i (omega arith)

pub set_false : (l : List Bool) (i : ℕ) → get_or (set l i false) i false ≡ false
set_false [] i = refl
set_false (x ∷ xs) zero = refl
set_false (x ∷ xs) (suc i) = set_false xs i

fits_all : {X : Type 0} (fit : ℕ → X → Type 0) (k : ℕ) (xs : List (plain.Option X)) → ((i : ℕ) (x : X) → get_elem? xs i ≡ some (Some x) → fit (k + i) x) → FitsAll fit k xs
fits_all fit k [] h = tt
fits_all {X} fit k (None ∷ xs) h = (tt, fits_all fit (k + 1) xs (λ i x e. subst (λ n. fit n x) (let q : k + suc i ≡ k + 1 + i = omega arith in q) (h (suc i) x e)))
fits_all {X} fit k (Some y ∷ xs) h = (subst (λ n. fit n y) (let q : k + 0 ≡ k = omega arith in q) (h 0 y refl), fits_all fit (k + 1) xs (λ i x e. subst (λ n. fit n x) (let q : k + suc i ≡ k + 1 + i = omega arith in q) (h (suc i) x e)))

of_map : {A B : Type 0} (f : A → B) (l : List A) (i : ℕ) (b : B) → get_elem? (map f l) i ≡ some b → (a : A) × (get_elem? l i ≡ some a) × (f a ≡ b)
of_map f [] i b e = absurd (some-ne-none b (sym e))
of_map f (x ∷ xs) zero b e = (x, refl, some-injective (f x) b e)
of_map f (x ∷ xs) (suc i) b e = of_map f xs i b e

module _ {P X T : Type 0} (facts : Facts P X T) (posts : ℕ) (id : ℕ) (v : View P X T) (ws : List ℕ) (xs : List (Slot P X T)) where
  -- the table has ended under the rule, with these words and slots, and the seat id knows v
  abbrev pub Ended : Type 0
  Ended = Final (Seen (Keeps facts posts) id v) ws xs

  abbrev shown_at : Ended → P
  shown_at e = e.1.0.shown

  -- the slot of a value whose word is 0 has a value
  pub home_value : (e : Ended) (b : ℕ) → b + 1 < length xs → get_elem? ws (b + 2) ≡ some 0 → (x : X) × (get_elem? xs (b + 1) ≡ some (Value x)) × facts.fits b (shown_at e) x
  home_value e b low z = let r = e.1.0 in let deep = r.deep in let len = e.3 in let inside : b < r.n = omega arith in
      let h = r.locks.home b inside (ap (λ l. get_or l (b + 2) 0) e.2 ∙ at_get ws (b + 2) 0 z) in (h.0, e.4 (b + 1) (Value h.0) h.1, h.2)

  home_pivot : (e : Ended) → get_elem? ws 1 ≡ some 0 → get_elem? xs 0 ≡ some (Pivot (shown_at e))
  home_pivot e z = let r = e.1.0 in e.4 0 (Pivot (shown_at e)) (r.pivots.at_home (ap (λ l. get_or l 1 0) e.2 ∙ at_get ws 1 0 z))

  -- the slot of the pivot, where its word is 0, has a pivot
  pub pivot_at_home : Ended → (s : Slot P X T) → get_elem? ws 1 ≡ some 0 → get_elem? xs 0 ≡ some s → ((p : P) → s ≡ Pivot p → ⊥) → ⊥
  pivot_at_home e s z here never = never (shown_at e) (some-injective s _ (sym here ∙ home_pivot e z))

  -- what comes back is what the board showed
  pub comes_back : Ended → (p : P) (out : List (plain.Option X)) → length out + 1 ≤ length xs → get_elem? ws 1 ≡ some 0 → get_elem? xs 0 ≡ some (Pivot p) → Back ws xs out
      → facts.good p × ((q : P) → In q v.pivot.seen → facts.grows q p) × FitsAll (λ b x. facts.fits b p x) 0 out
  comes_back e p out low z here back = let r = e.1.0 in
      let same : shown_at e ≡ p = ap (pivot_or p) (some-injective _ _ (sym (home_pivot e z) ∙ here)) in (
        subst facts.good same r.pivots.is_good,
        (λ q h. subst (facts.grows q) same ((r.pivots.each id v.pivot (at_map pivot_of e.0.views id v e.1.1)).grown q h)),
        fits_all (λ b x. facts.fits b p x) 0 out (λ i x at. let b = back i x at in let l = below out i (Some x) at in let t = home_value e i (omega arith) b.1 in
            let one : t.0 ≡ x = ap (value_or x) (some-injective _ _ (sym t.1 ∙ b.0)) in
            subst (λ k. facts.fits k p x) (let q : i ≡ 0 + i = omega arith in q) (subst (λ y. facts.fits i p y) one (subst (λ u. facts.fits i u t.0) same t.2))),
      )

  -- the values that come back are those at home
  pub gives_home : (e : Ended) (out : List (plain.Option X)) → length out + 1 ≡ length xs → Back ws xs out → Whole ws xs out → AreHome e.0 out
  gives_home e out count back whole b x = (given, taken) where
    s : State (Slot P X T) (View P X T)
    s = e.0

    given : get_elem? out b ≡ some (Some x) → get_elem? s.homes (b + 1) ≡ some (some (Value x))
    given at =
        let r = e.1.0 in let deep = r.deep in let len = e.3 in let low = below out b (Some x) at in let inside : b < r.n = omega arith in let it = back b x at in
        let h = r.locks.home b inside (ap (λ l. get_or l (b + 2) 0) e.2 ∙ at_get ws (b + 2) 0 it.1) in
        let one : h.0 ≡ x = ap (value_or x) (some-injective _ _ (sym (e.4 (b + 1) (Value h.0) h.1) ∙ it.0)) in
        subst (λ y. get_elem? s.homes (b + 1) ≡ some (some (Value y))) one h.1

    taken : get_elem? s.homes (b + 1) ≡ some (some (Value x)) → get_elem? out b ≡ some (Some x)
    taken at =
        let r = e.1.0 in let deep = r.deep in let wide = r.wide in let len = e.3 in let low = below s.homes (b + 1) (some (Value x)) at in let inside : b < r.n = omega arith in
        dite (ℕ_discrete (get_or s.words (b + 2) 0) 0)
        (λ zero_word.
        let here : get_elem? ws (b + 2) ≡ some 0 =
        ap (λ l. get_elem? l (b + 2)) (sym e.2) ∙ (at_within s.words (b + 2) (omega arith) ∙ ap some zero_word) in
        let it = whole b (omega arith) here in
        let one : it.0 ≡ x = ap (value_or x) (some-injective _ _ (sym it.2 ∙ e.4 (b + 1) (Value x) at)) in
        it.1 ∙ ap (λ y. some (Some y)) one)
        (λ ne. let gone = (r.locks.out b inside ne).0 in let never : some none ≡ some (some (Value x)) = sym gone ∙ at in absurd (some-ne-none _ (sym (some-injective _ _ never))))

  -- the pivot that comes back is the one at home
  pub gives_pivot : (e : Ended) (p : P) → get_elem? ws 1 ≡ some 0 → get_elem? xs 0 ≡ some (Pivot p) → IsPivot e.0 (Some p)
  gives_pivot e p z here =
      let same : shown_at e ≡ p = ap (pivot_or p) (some-injective _ _ (sym (home_pivot e z) ∙ here)) in
      subst (λ q. get_elem? e.0.homes 0 ≡ some (some (Pivot q))) same (e.1.0.pivots.at_home (ap (λ l. get_or l 1 0) e.2 ∙ at_get ws 1 0 z))

  -- where none comes back, the pivot is out
  pub pivot_is_out : (e : Ended) (n : ℕ) → get_elem? ws 1 ≡ some n → n ≢ 0 → IsPivot e.0 None
  pivot_is_out e n at ne = (e.1.0.pivots.away (λ z. ne (sym (at_get ws 1 n at) ∙ (sym (ap (λ l. get_or l 1 0) e.2) ∙ z)))).1

  others_apart : (e : Ended) → HasAll v → (k : ℕ) (w : View P X T) → At e.0.views k w → k ≢ id → w ≡ looked_only w.looked
  others_apart e all = others_spent e.0.views id v e.1.1 e.1.0.parts all.0

  -- beside the seat that has taken in all others no value is out
  no_value_out : (e : Ended) → HasAll v → (b : ℕ) → b < e.1.0.n → get_or e.0.words (b + 2) 0 ≡ 0
  no_value_out e all b low = dite (ℕ_discrete (get_or e.0.words (b + 2) 0) 0) (λ z. z) (λ ne. let h = (e.1.0.locks.out b low ne).1 in let m = of_map lock_of e.0.views h.0 h.1 h.3 in let x = h.2 in
      dite (ℕ_discrete h.0 id)
      (λ same. let is : h.1 ≡ v.lock = sym m.2 ∙ ap lock_of (same_view e.0.views id h.0 v m.0 e.1.1 m.1 same) in absurd (subst (In (b, x)) (ap (λ (l : LockView X). l.owes) is ∙ all.1) h.5))
      (λ apart. let is : h.1 ≡ (looked_only {P = P} {X = X} {T = T} []).lock = sym m.2 ∙ ap lock_of (others_apart e all h.0 m.0 m.1 apart) in absurd (subst (λ (l : LockView X). In (b, x) l.owes) is h.5)))

  -- beside the seat that has taken in all others the pivot is not out
  pub pivot_not_out : (e : Ended) → HasAll v → (n : ℕ) → get_elem? ws 1 ≡ some n → n ≢ 0 → ⊥
  pivot_not_out e all n at ne = let a = e.1.0.pivots.away (λ z. ne (sym (at_get ws 1 n at) ∙ (sym (ap (λ l. get_or l 1 0) e.2) ∙ z))) in let h = a.2 in let m = of_map pivot_of e.0.views h.0 h.1 h.2 in
      dite (ℕ_discrete h.0 id)
      (λ same. let is : h.1 ≡ v.pivot = sym m.2 ∙ ap pivot_of (same_view e.0.views id h.0 v m.0 e.1.1 m.1 same) in false≢true (sym all.2 ∙ (sym (ap (λ (l : PivotView P). l.inside) is) ∙ h.3)))
      (λ apart. let is : h.1 ≡ (looked_only {P = P} {X = X} {T = T} []).pivot = sym m.2 ∙ ap pivot_of (others_apart e all h.0 m.0 m.1 apart) in false≢true (sym (ap (λ (l : PivotView P). l.inside) is) ∙ h.3))

  -- the pivot comes back as the seat that has taken in all others saw it last
  pub comes_as_seen : (e : Ended) → HasAll v → (p : P) → get_elem? ws 1 ≡ some 0 → get_elem? xs 0 ≡ some (Pivot p) → In p v.pivot.seen
  comes_as_seen e all p z here = let same : shown_at e ≡ p = ap (pivot_or p) (some-injective _ _ (sym (home_pivot e z) ∙ here)) in
      subst (λ q. In q v.pivot.seen) same (seen_by_all e.0.views id v (shown_at e) e.1.1 e.1.0.parts all.0 e.1.0.latest)

  -- each value comes back to the seat that has taken in all others
  pub all_there : (e : Ended) (out : List (plain.Option X)) → length out + 1 ≡ length xs → Whole ws xs out → HasAll v → (b : ℕ) → b < length out → (x : X) × (get_elem? out b ≡ some (Some x))
  all_there e out count whole all b low = let r = e.1.0 in let deep = r.deep in let wide = r.wide in let len = e.3 in let inside : b < r.n = omega arith in
      let here : get_elem? ws (b + 2) ≡ some 0 = ap (λ l. get_elem? l (b + 2)) (sym e.2) ∙ (at_within e.0.words (b + 2) (omega arith) ∙ ap some (no_value_out e all b inside)) in
      let it = whole b low here in (it.0, it.1)
