-- The order of a run queue after one entity was taken out.
use Rattle.std.proofs.Common.{◌≡◌, ◌≢◌, ℕ, zero, suc, ◌+◌, ◌<◌, ◌≤◌, true, false, cond, List, [], ◌∷◌, set, length, Some, None, Option, refl, sym, ap, subst, ◌∙◌, inl, inr, ◌⊎◌, arith, slice_get}
use Rattle.std.specs.Prelude.{count_by, is_some, remove, nat_lt}
use Rattle.std.proofs.lemmas.Bool.{cases_eq, ltb-true, ltb-false}
use Rattle.std.proofs.lemmas.List.Sums.{sum_by-cons}
use Rattle.drm_lists.proofs.Changed.{get_set_other}
use Rattle.drm_types.specs.Priorities.{rank_of}
use Rattle.drm_runq.specs.declared.key.Key.{Key}
use Rattle.drm_runq.specs.declared.queue.Place.{Place}
use Rattle.drm_runq.specs.Keys.{HasKey}
use Rattle.drm_runq.specs.Sorted.{weight, weight_of, IsSortedQueue, StandsBy, IsOrderOf}

get_remove_before : {X : Type 0} (xs : List X) (k i : ℕ) → i < k → slice_get (remove xs k) i ≡ slice_get xs i
get_remove_before xs zero i lt = absurd (omega (arith, lt))
get_remove_before [] (suc k) i lt = refl
get_remove_before (x ∷ xs) (suc k) zero lt = refl
get_remove_before (x ∷ xs) (suc k) (suc i) lt = get_remove_before xs k i (omega (arith, lt))

get_remove_after : {X : Type 0} (xs : List X) (k i : ℕ) → k ≤ i → slice_get (remove xs k) i ≡ slice_get xs (suc i)
get_remove_after [] zero i le = refl
get_remove_after [] (suc k) i le = refl
get_remove_after (x ∷ xs) zero i le = refl
get_remove_after (x ∷ xs) (suc k) zero le = absurd (omega (arith, le))
get_remove_after (x ∷ xs) (suc k) (suc i) le = get_remove_after xs k i (omega (arith, le))

-- where a place was before
abbrev pub WasAt : ℕ → ℕ → ℕ → Type 0
WasAt place i j = ((i < place) × (j ≡ i)) ⊎ ((place ≤ i) × (j ≡ suc i))

old_of : (order : List Place) (place i : ℕ) (p : Place) → slice_get (remove order place) i ≡ Some p → (j : ℕ) × (slice_get order j ≡ Some p) × WasAt place i j
old_of order place i p at =
    elim (nat_lt i place) as (λ t. nat_lt i place ≡ t → (j : ℕ) × (slice_get order j ≡ Some p) × WasAt place i j) [
      | true ↦ λ is. let lt : i < place = ltb-true i place is in (i, sym (get_remove_before order place i lt) ∙ at, inl (lt, refl))
      | false ↦ λ is. let le : place ≤ i = ltb-false i place is in (suc i, sym (get_remove_after order place i le) ∙ at, inr (le, refl))
    ] refl

monotone : (place i j a b : ℕ) → WasAt place i a → WasAt place j b → i < j → a < b
monotone place i j a b (inl x) (inl y) lt = omega (arith, lt, x.0, x.1, y.0, y.1)
monotone place i j a b (inl x) (inr y) lt = omega (arith, lt, x.0, x.1, y.0, y.1)
monotone place i j a b (inr x) (inl y) lt = omega (arith, lt, x.0, x.1, y.0, y.1)
monotone place i j a b (inr x) (inr y) lt = omega (arith, lt, x.0, x.1, y.0, y.1)

not_there : (place i j : ℕ) → WasAt place i j → j ≡ place → ⊥
not_there place i j (inl x) same = omega (arith, x.0, x.1, same)
not_there place i j (inr x) same = omega (arith, x.0, x.1, same)

-- one key less
pub count_cleared : (keys : List (Option Key)) (e : ℕ) (key : Key) → HasKey keys e key → count_by is_some (set keys e None) + 1 ≡ count_by is_some keys
count_cleared [] e key has = absurd (cc (has))
count_cleared (k ∷ keys) zero key has =
    let same : k ≡ Some key = cc (has) in
    let old : count_by is_some (k ∷ keys) ≡ 1 + count_by is_some keys =
    ap (λ (o : Option Key). count_by is_some (o ∷ keys)) same ∙ sum_by-cons (λ (x : Option Key). cond (is_some x) 1 0) (Some key) keys in
    let new : count_by is_some (set (k ∷ keys) zero None) ≡ 0 + count_by is_some keys = sum_by-cons (λ (x : Option Key). cond (is_some x) 1 0) None keys in omega (arith, old, new)
count_cleared (k ∷ keys) (suc e) key has =
    let old : count_by is_some (k ∷ keys) ≡ cond (is_some k) 1 0 + count_by is_some keys = sum_by-cons (λ (x : Option Key). cond (is_some x) 1 0) k keys in
    let new : count_by is_some (k ∷ set keys e None) ≡ cond (is_some k) 1 0 + count_by is_some (set keys e None) = sum_by-cons (λ (x : Option Key). cond (is_some x) 1 0) k (set keys e None) in
    omega (arith, old, new, count_cleared keys e key has)

none_at : (keys : List (Option Key)) (e : ℕ) (key : Key) → HasKey (set keys e None) e key → ⊥
none_at [] e key has = absurd (cc (has))
none_at (k ∷ keys) zero key has = absurd (cc (has))
none_at (k ∷ keys) (suc e) key has = none_at keys e key has

length_remove : {X : Type 0} (xs : List X) (k : ℕ) (x : X) → slice_get xs k ≡ Some x → length (remove xs k) + 1 ≡ length xs
length_remove [] k x at = absurd (cc (at))
length_remove (y ∷ xs) zero x at = omega arith
length_remove (y ∷ xs) (suc k) x at = omega (arith, length_remove xs k x at)

-- the entity stands at the place that the search gives
pub place_is : (order : List Place) (place e : ℕ) (key : Key) → IsSortedQueue order → StandsBy order key e
    → ((i : ℕ) (p : Place) → i < place → slice_get order i ≡ Some p → weight p < weight_of (rank_of key.priority) key.age e)
    → ((i : ℕ) (p : Place) → place ≤ i → slice_get order i ≡ Some p → weight_of (rank_of key.priority) key.age e ≤ weight p)
    → slice_get order place ≡ Some (record { key = key; entity = e })
place_is order place e key sorted stands before after =
    let it : Place = record { key = key; entity = e } in
    let w = stands.there in
    elim (cases_eq w.0 place) [
      | inl same ↦ subst (λ i. slice_get order i ≡ Some it) same w.1
      | inr apart ↦
          elim (nat_lt w.0 place) as (λ t. nat_lt w.0 place ≡ t → slice_get order place ≡ Some it) [
            | true ↦ λ lt. absurd (omega (arith, before w.0 it (ltb-true w.0 place lt) w.1))
            | false ↦ λ ge.
                let past : place < w.0 = omega (arith, ltb-false w.0 place ge, apart) in
                let q = there_below order place w.0 it past w.1 in
                absurd (omega (arith, sorted place w.0 q.0 it past q.1 w.1, after place q.0 (omega arith) q.1))
          ] refl
    ]
  where
    there_below : {X : Type 0} (xs : List X) (k i : ℕ) (x : X) → k < i → slice_get xs i ≡ Some x → (y : X) × (slice_get xs k ≡ Some y)
    there_below [] k i x lt at = absurd (cc (at))
    there_below (y ∷ xs) zero i x lt at = (y, refl)
    there_below (y ∷ xs) (suc k) zero x lt at = absurd (omega (arith, lt))
    there_below (y ∷ xs) (suc k) (suc i) x lt at = there_below xs k i x (omega (arith, lt)) at

-- and what is left is the order of what is left
pub order_cleared : (keys : List (Option Key)) (order : List Place) (place e : ℕ) (key : Key) → IsOrderOf keys order → HasKey keys e key
    → (p : Place) × (slice_get order place ≡ Some p) × (p.entity ≡ e) × (p.key ≡ key) → IsOrderOf (set keys e None) (remove order place)
order_cleared keys order place e key is has at = record {
  sorted = λ i j p q lt at_i at_j.
      let a = old_of order place i p at_i in
      let b = old_of order place j q at_j in is.sorted a.0 b.0 p q (monotone place i j a.0 b.0 a.2 b.2 lt) a.1 b.1;
  sound = λ i p at_i. let a = old_of order place i p at_i in get_set_other keys e p.entity None (other a.0 p a.1 (not_there place i a.0 a.2)) ∙ is.sound a.0 p a.1;
  whole = λ entity k is_there.
      let apart : entity ≢ e = λ same. none_at keys e k (subst (λ n. HasKey (set keys e None) n k) same is_there) in
      let w = is.whole entity k (sym (get_set_other keys e entity None apart) ∙ is_there) in
      let away : w.0 ≢ place = λ same. let one : w.1 ≡ at.0 = cc (w.2, at.1, same) in apart (sym w.3 ∙ (ap (λ (z : Place). z.entity) one ∙ at.2)) in
      moved w.0 w.1 entity k away w.2 w.3 w.4;
  fits = λ i p at_i. let a = old_of order place i p at_i in is.fits a.0 p a.1;
  count = omega (arith, is.count, count_cleared keys e key has, length_remove order place at.0 at.1);
}
  where
    past : (j : ℕ) → (j ≡ place → ⊥) → place ≤ j → place < j
    past j away le = elim (cases_eq j place) [ inl same ↦ absurd (away same) | inr apart ↦ omega (arith, le, apart) ]

    other : (j : ℕ) (p : Place) → slice_get order j ≡ Some p → (j ≡ place → ⊥) → p.entity ≢ e
    other j p at_j away same =
        let k : HasKey keys e p.key = subst (λ n. HasKey keys n p.key) same (is.sound j p at_j) in
        let one : p.key ≡ key = cc (k, has) in
        let heavy : weight p ≡ weight at.0 =
        ap (λ (z : Key). weight_of (rank_of z.priority) z.age p.entity) (one ∙ sym at.3) ∙ ap (weight_of (rank_of at.0.key.priority) at.0.key.age) (same ∙ sym at.2) in
        elim (nat_lt j place) as (λ t. nat_lt j place ≡ t → ⊥) [
          | true ↦ λ lt. omega (arith, heavy, is.sorted j place p at.0 (ltb-true j place lt) at_j at.1)
          | false ↦ λ ge. omega (arith, heavy, is.sorted place j at.0 p (past j away (ltb-false j place ge)) at.1 at_j)
        ] refl

    lower : (j : ℕ) (p : Place) (entity : ℕ) (k : Key) → place < j → slice_get order j ≡ Some p → p.entity ≡ entity → p.key ≡ k
        → (i : ℕ) × (p : Place) × (slice_get (remove order place) i ≡ Some p) × (p.entity ≡ entity) × (p.key ≡ k)
    lower zero p entity k lt at_j e_is k_is = absurd (omega (arith, lt))
    lower (suc j) p entity k lt at_j e_is k_is = (j, p, get_remove_after order place j (omega (arith, lt)) ∙ at_j, e_is, k_is)

    moved : (j : ℕ) (p : Place) (entity : ℕ) (k : Key) → j ≢ place → slice_get order j ≡ Some p → p.entity ≡ entity → p.key ≡ k
        → (i : ℕ) × (p : Place) × (slice_get (remove order place) i ≡ Some p) × (p.entity ≡ entity) × (p.key ≡ k)
    moved j p entity k away at_j e_is k_is =
        elim (nat_lt j place) as (λ t. nat_lt j place ≡ t → (i : ℕ) × (p : Place) × (slice_get (remove order place) i ≡ Some p) × (p.entity ≡ entity) × (p.key ≡ k)) [
          | true ↦ λ lt. (j, p, get_remove_before order place j (ltb-true j place lt) ∙ at_j, e_is, k_is)
          | false ↦ λ ge. lower j p entity k (past j away (ltb-false j place ge)) at_j e_is k_is
        ] refl

-- what the code leaves
pub cleared_by : (keys : List (Option Key)) (order seen new : List Place) (place e : ℕ) (key : Key) → seen ≡ order → IsOrderOf keys order → HasKey keys e key
    → slice_get seen place ≡ Some (record { key = key; entity = e }) → new ≡ remove order place → IsOrderOf (set keys e None) new
cleared_by keys order seen new place e key seen_is is has at new_is =
    let it : Place = record { key = key; entity = e } in
    let there : slice_get order place ≡ Some it = subst (λ (l : List Place). slice_get l place ≡ Some it) seen_is at in
    subst (IsOrderOf (set keys e None)) (sym new_is) (order_cleared keys order place e key is has (it, there, refl, refl))
