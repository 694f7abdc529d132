-- The order of a run queue.
use Rattle.std.proofs.Common.{◌≡◌, ℕ, zero, suc, ◌+◌, ◌^◌, ◌<◌, ◌≤◌, Bool, true, false, ◌&&◌, ◌==◌, List, [], ◌∷◌, length, replicate, Some, None, Option, refl, sym, ap, subst, inl, inr, ◌⊎◌, arith, slice_get}
use Rattle.std.specs.Prelude.{count_by, is_some, nat_lt}
use Rattle.std.proofs.lemmas.Bool.{cases_eq, or_cases, and_parts, eqb-true, ltb-true, ltb-false}
use Rattle.drm_types.specs.Priorities.{rank_of}
use Rattle.drm_runq.specs.declared.key.Key.{Key}
use Rattle.drm_runq.specs.declared.queue.Place.{Place}
use Rattle.drm_runq.specs.Keys.{HasKey, IsFirstReady, NoneReady, comes_before}
use Rattle.drm_runq.specs.Sorted.{weight, weight_of, IsOrderOf}

-- nothing stands in a list of nothing
pub none_has : (n e : ℕ) (key : Key) → HasKey (replicate n None) e key → ⊥
none_has zero e key is = absurd (cc (is))
none_has (suc n) zero key is = absurd (cc (is))
none_has (suc n) (suc e) key is = none_has n e key is

none_there : {X : Type 0} (i : ℕ) (x : X) → slice_get [] i ≡ Some x → ⊥
none_there i x is = absurd (cc (is))

none_counted : (n : ℕ) → 0 ≡ count_by is_some (replicate {A = Option Key} n None)
none_counted zero = refl
none_counted (suc n) = none_counted n

-- nothing is the order of nothing
pub order_of_none : (n : ℕ) → IsOrderOf (replicate n None) []
order_of_none n = record {
  sorted = λ i j p q lt at_i at_j. absurd (none_there i p at_i);
  sound = λ i p at. absurd (none_there i p at);
  whole = λ e key has. absurd (none_has n e key has);
  fits = λ i p at. absurd (none_there i p at);
  count = none_counted n;
}

-- numbers in the order of two keys
lighter : (r s a b e f : ℕ) → a < 2 ^ 32 → e < 2 ^ 32 → (r < s) ⊎ ((r ≡ s) × (a < b)) → weight_of r a e < weight_of s b f
lighter r s a b e f a_fits e_fits (inl lt) = omega (arith, a_fits, e_fits, lt)
lighter r s a b e f a_fits e_fits (inr both) = omega (arith, a_fits, e_fits, both.0, both.1)

pub lighter_before : (p q : Place) → comes_before p.key q.key ≡ true → p.key.age < 2 ^ 32 → p.entity < 2 ^ 32 → weight p < weight q
lighter_before p q is a_fits e_fits =
    elim (or_cases (nat_lt (rank_of p.key.priority) (rank_of q.key.priority)) ((rank_of p.key.priority == rank_of q.key.priority) && nat_lt p.key.age q.key.age) is) [
      | inl lt ↦
          let less : rank_of p.key.priority < rank_of q.key.priority = ltb-true (rank_of p.key.priority) (rank_of q.key.priority) lt in
          lighter (rank_of p.key.priority) (rank_of q.key.priority) p.key.age q.key.age p.entity q.entity a_fits e_fits (inl less)
      | inr both ↦
          let parts = and_parts (rank_of p.key.priority == rank_of q.key.priority) (nat_lt p.key.age q.key.age) both in
          lighter (rank_of p.key.priority) (rank_of q.key.priority) p.key.age q.key.age p.entity q.entity a_fits e_fits
          (inr (eqb-true (rank_of p.key.priority) (rank_of q.key.priority) parts.0, ltb-true p.key.age q.key.age parts.1))
    ]

-- each place of the order has its key
pub place_has_key : (keys now : List (Option Key)) (order seen : List Place) (i : ℕ) (p : Place) → keys ≡ now → seen ≡ order → IsOrderOf keys order
    → slice_get seen i ≡ Some p → HasKey now p.entity p.key
place_has_key keys now order seen i p view seen_is is at =
    subst (λ (l : List (Option Key)). HasKey l p.entity p.key) view (is.sound i p (subst (λ (l : List Place). slice_get l i ≡ Some p) seen_is at))

-- the first in the order that was answered true is the first that is ready
pub first_found : (keys now : List (Option Key)) (order seen : List Place) (Answers : ℕ → Bool → Type 0) (place : ℕ) (p : Place) → keys ≡ now → seen ≡ order
    → IsOrderOf keys order → slice_get seen place ≡ Some p → Answers p.entity true
    → ((i : ℕ) (q : Place) → i < place → slice_get seen i ≡ Some q → Answers q.entity false) → IsFirstReady Answers now p.entity
first_found keys now order seen Answers place p view seen_is is at ready before =
    subst (λ (l : List (Option Key)). IsFirstReady Answers l p.entity) view (record {
      key = p.key;
      has_key = is.sound place p there;
      ready = ready;
      others = λ other k has first.
          let w = is.whole other k has in
          let fits = is.fits w.0 w.1 w.2 in
          let less : weight w.1 < weight p = lighter_before w.1 p (subst (λ (z : Key). comes_before z p.key ≡ true) (sym w.4) first) fits.0 fits.1 in
          subst (λ e. Answers e false) w.3 (by_place w.0 w.1 w.2 less);
    })
  where
    there : slice_get order place ≡ Some p
    there = subst (λ (l : List Place). slice_get l place ≡ Some p) seen_is at

    by_place : (i : ℕ) (q : Place) → slice_get order i ≡ Some q → weight q < weight p → Answers q.entity false
    by_place i q at_i less =
        elim (cases_eq i place) [
          | inl same ↦ let one : q ≡ p = cc (at_i, there, same) in absurd (omega (arith, less, ap weight one))
          | inr apart ↦
              elim (nat_lt i place) as (λ t. nat_lt i place ≡ t → Answers q.entity false) [
                | true ↦ λ lt. before i q (ltb-true i place lt) (subst (λ (l : List Place). slice_get l i ≡ Some q) (sym seen_is) at_i)
                | false ↦ λ not_lt. absurd (omega (arith, less, is.sorted place i p q (omega (arith, ltb-false i place not_lt, apart)) there at_i))
              ] refl
        ]

within : {X : Type 0} (xs : List X) (i : ℕ) (x : X) → slice_get xs i ≡ Some x → i < length xs
within [] i x at = absurd (cc (at))
within (y ∷ xs) zero x at = omega arith
within (y ∷ xs) (suc i) x at = omega (arith, within xs i x at)

-- where each in the order was answered false
pub none_found : (keys now : List (Option Key)) (order seen : List Place) (Answers : ℕ → Bool → Type 0) (end : ℕ) → keys ≡ now → seen ≡ order
    → IsOrderOf keys order → length seen ≤ end → ((i : ℕ) (q : Place) → i < end → slice_get seen i ≡ Some q → Answers q.entity false)
    → NoneReady Answers now
none_found keys now order seen Answers end view seen_is is past each other k has =
    let w = is.whole other k (subst (λ (l : List (Option Key)). HasKey l other k) (sym view) has) in
    let at : slice_get seen w.0 ≡ Some w.1 = subst (λ (l : List Place). slice_get l w.0 ≡ Some w.1) (sym seen_is) w.2 in
    subst (λ e. Answers e false) w.3 (each w.0 w.1 (omega (arith, within seen w.0 w.1 at, past)) at)

-- one more in the order was answered false
pub one_more_no : (seen : List Place) (No : ℕ → Type 0) (place : ℕ) (p : Place) → slice_get seen place ≡ Some p → No p.entity
    → ((i : ℕ) (q : Place) → i < place → slice_get seen i ≡ Some q → No q.entity) → (i : ℕ) (q : Place) → i < place + 1 → slice_get seen i ≡ Some q → No q.entity
one_more_no seen No place p at refused before i q lt at_i =
    elim (cases_eq i place) [
      | inl same ↦ let one : p ≡ q = cc (at, at_i, same) in subst (λ (z : Place). No z.entity) one refused
      | inr apart ↦ before i q (omega (arith, lt, apart)) at_i
    ]
