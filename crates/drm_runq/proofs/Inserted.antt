-- The order of a run queue after one entity was put in.
use Rattle.std.proofs.Common.{◌≡◌, ◌≢◌, ℕ, zero, suc, ◌+◌, ◌^◌, ◌<◌, ◌≤◌, Bool, true, false, cond, List, [], ◌∷◌, set, length-set, length, Some, None, Option, refl, sym, ap, subst, ◌∙◌, inl, inr, ◌⊎◌, arith, slice_get}
use Rattle.std.specs.Prelude.{count_by, is_some, insert, nat_lt}
use Rattle.std.proofs.lemmas.Bool.{cases_eq, ltb-true, ltb-false}
use Rattle.std.proofs.lemmas.List.Sums.{sum_by-cons, count_by-le-length}
use Rattle.drm_lists.proofs.Changed.{get_set_same, get_set_other, get_set_within}
use Rattle.drm_types.specs.Priorities.{rank_of}
use Rattle.drm_runq.specs.declared.key.Key.{Key}
use Rattle.drm_runq.specs.declared.queue.Place.{Place}
use Rattle.drm_runq.specs.Keys.{HasKey}
use Rattle.drm_runq.specs.Sorted.{weight, weight_of, IsOrderOf}

get_before : {X : Type 0} (xs : List X) (k i : ℕ) (y : X) → i < k → k ≤ length xs → slice_get (insert xs k y) i ≡ slice_get xs i
get_before xs zero i y lt le = absurd (omega (arith, lt))
get_before [] (suc k) i y lt le = absurd (omega (arith, le))
get_before (x ∷ xs) (suc k) zero y lt le = refl
get_before (x ∷ xs) (suc k) (suc i) y lt le = get_before xs k i y (omega (arith, lt)) (omega (arith, le))

get_at : {X : Type 0} (xs : List X) (k : ℕ) (y : X) → k ≤ length xs → slice_get (insert xs k y) k ≡ Some y
get_at xs zero y le = refl
get_at [] (suc k) y le = absurd (omega (arith, le))
get_at (x ∷ xs) (suc k) y le = get_at xs k y (omega (arith, le))

get_after : {X : Type 0} (xs : List X) (k i : ℕ) (y : X) → k ≤ i → k ≤ length xs → slice_get (insert xs k y) (suc i) ≡ slice_get xs i
get_after xs zero i y lt le = refl
get_after [] (suc k) i y lt le = absurd (omega (arith, le))
get_after (x ∷ xs) (suc k) zero y lt le = absurd (omega (arith, lt))
get_after (x ∷ xs) (suc k) (suc i) y lt le = get_after xs k i y (omega (arith, lt)) (omega (arith, le))

-- a place of the new order: of the old one, or the new place
abbrev pub WasAt : ℕ → ℕ → ℕ → Type 0
WasAt place i j = ((i < place) × (j ≡ i)) ⊎ ((place < i) × (suc j ≡ i))

abbrev pub OldOrNew : List Place → ℕ → Place → ℕ → Place → Type 0
OldOrNew order place new i p = ((j : ℕ) × (slice_get order j ≡ Some p) × WasAt place i j) ⊎ ((i ≡ place) × (p ≡ new))

old_or_new : (order : List Place) (place : ℕ) (new : Place) (i : ℕ) (p : Place) → place ≤ length order
    → slice_get (insert order place new) i ≡ Some p → OldOrNew order place new i p
old_or_new order place new i p le at =
    elim (nat_lt i place) as (λ t. nat_lt i place ≡ t → OldOrNew order place new i p) [
      | true ↦ λ is. let lt : i < place = ltb-true i place is in inl (i, sym (get_before order place i new lt le) ∙ at, inl (lt, refl))
      | false ↦ λ is. past i (ltb-false i place is) at
    ] refl
  where
    past : (i : ℕ) → place ≤ i → slice_get (insert order place new) i ≡ Some p → OldOrNew order place new i p
    past zero ge at_i =
        let same : zero ≡ place = omega (arith, ge) in
        inr (same, cc (at_i, subst (λ k. slice_get (insert order place new) k ≡ Some new) (sym same) (get_at order place new le)))
    past (suc i) ge at_i =
        elim (cases_eq (suc i) place) [
          | inl same ↦ inr (same, cc (at_i, subst (λ k. slice_get (insert order place new) k ≡ Some new) (sym same) (get_at order place new le)))
          | inr apart ↦ inl (i, sym (get_after order place i new (omega (arith, ge, apart)) le) ∙ at_i, inr (omega (arith, ge, apart), refl))
        ]

monotone : (place i j a b : ℕ) → WasAt place i a → WasAt place j b → i < j → a < b
monotone place i j a b (inl x) (inl y) lt = omega (arith, lt, x.0, x.1, y.0, y.1)
monotone place i j a b (inl x) (inr y) lt = omega (arith, lt, x.0, x.1, y.0, y.1)
monotone place i j a b (inr x) (inl y) lt = omega (arith, lt, x.0, x.1, y.0, y.1)
monotone place i j a b (inr x) (inr y) lt = omega (arith, lt, x.0, x.1, y.0, y.1)

-- one key more
count_set : (keys : List (Option Key)) (e : ℕ) (key : Key) → slice_get keys e ≡ Some None
    → count_by is_some (set keys e (Some key)) ≡ count_by is_some keys + 1
count_set [] e key none = absurd (cc (none))
count_set (k ∷ keys) zero key none =
    let same : k ≡ None = cc (none) in
    let old : count_by is_some (k ∷ keys) ≡ 0 + count_by is_some keys =
    ap (λ (o : Option Key). count_by is_some (o ∷ keys)) same ∙ sum_by-cons (λ (x : Option Key). cond (is_some x) 1 0) None keys in
    let new : count_by is_some (set (k ∷ keys) zero (Some key)) ≡ 1 + count_by is_some keys = sum_by-cons (λ (x : Option Key). cond (is_some x) 1 0) (Some key) keys in
    omega (arith, old, new)
count_set (k ∷ keys) (suc e) key none =
    let old : count_by is_some (k ∷ keys) ≡ cond (is_some k) 1 0 + count_by is_some keys = sum_by-cons (λ (x : Option Key). cond (is_some x) 1 0) k keys in
    let new : count_by is_some (k ∷ set keys e (Some key)) ≡ cond (is_some k) 1 0 + count_by is_some (set keys e (Some key)) =
    sum_by-cons (λ (x : Option Key). cond (is_some x) 1 0) k (set keys e (Some key)) in
    omega (arith, old, new, count_set keys e key none)

length_insert : {X : Type 0} (xs : List X) (k : ℕ) (y : X) → k ≤ length xs → length (insert xs k y) ≡ length xs + 1
length_insert xs zero y le = omega arith
length_insert [] (suc k) y le = absurd (omega (arith, le))
length_insert (x ∷ xs) (suc k) y le = omega (arith, length_insert xs k y (omega (arith, le)))

-- the entity decides between equal keys
same_entity : (r s a b e f : ℕ) → a < 2 ^ 32 → b < 2 ^ 32 → e < 2 ^ 32 → f < 2 ^ 32 → weight_of r a e ≡ weight_of s b f → e ≡ f
same_entity r s a b e f a_fits b_fits e_fits f_fits same = omega (arith, a_fits, b_fits, e_fits, f_fits, same)

-- what is there after the entity was put at the place that the search gives is the order of all
pub order_set : (keys : List (Option Key)) (order : List Place) (place e : ℕ) (key : Key) → IsOrderOf keys order → slice_get keys e ≡ Some None
    → key.age < 2 ^ 32 → e < 2 ^ 32 → place ≤ length order
    → ((i : ℕ) (p : Place) → i < place → slice_get order i ≡ Some p → weight p < weight_of (rank_of key.priority) key.age e)
    → ((i : ℕ) (p : Place) → place ≤ i → slice_get order i ≡ Some p → weight_of (rank_of key.priority) key.age e ≤ weight p)
    → IsOrderOf (set keys e (Some key)) (insert order place (record { key = key; entity = e }))
order_set keys order place e key is none age_fits e_fits le before after = record {
  sorted = λ i j p q lt at_i at_j. in_order i j p q lt (old_or_new order place new i p le at_i) (old_or_new order place new j q le at_j);
  sound = λ i p at. has i p (old_or_new order place new i p le at);
  whole = λ entity k has_k.
      elim (cases_eq entity e) [
        | inl same ↦
            let there : HasKey (set keys e (Some key)) e k = subst (λ n. HasKey (set keys e (Some key)) n k) same has_k in
            let one : key ≡ k = cc (there, get_set_same keys e None (Some key) none) in (place, new, get_at order place new le, sym same, one)
        | inr apart ↦
            let away : entity ≢ e = λ same. apart same in
            let w = is.whole entity k (sym (get_set_other keys e entity (Some key) away) ∙ has_k) in moved w.0 w.1 entity k w.2 w.3 w.4
      ];
  fits = λ i p at. fit i p (old_or_new order place new i p le at);
  count = omega (arith, is.count, count_set keys e key none, length_insert order place new le);
}
  where
    new : Place
    new = record { key = key; entity = e }

    other : (j : ℕ) (p : Place) → slice_get order j ≡ Some p → p.entity ≢ e
    other j p at same = let has_e : HasKey keys e p.key = subst (λ n. HasKey keys n p.key) same (is.sound j p at) in absurd (cc (has_e, none))

    strict : (j : ℕ) (p : Place) → slice_get order j ≡ Some p → weight_of (rank_of key.priority) key.age e ≤ weight p
        → weight_of (rank_of key.priority) key.age e < weight p
    strict j p at heavy =
        elim (cases_eq (weight_of (rank_of key.priority) key.age e) (weight p)) [
          | inl same ↦
              let fits = is.fits j p at in
              absurd (other j p at (sym (same_entity (rank_of key.priority) (rank_of p.key.priority) key.age p.key.age e p.entity age_fits fits.0 e_fits fits.1 same)))
          | inr apart ↦ omega (arith, heavy, apart)
        ]

    behind : (i j : ℕ) (p : Place) → slice_get order j ≡ Some p → place < i → WasAt place i j → weight_of (rank_of key.priority) key.age e < weight p
    behind i j p at past (inl x) = absurd (omega (arith, past, x.0))
    behind i j p at past (inr x) = strict j p at (after j p (omega (arith, x.0, x.1)) at)

    ahead : (i j : ℕ) (p : Place) → slice_get order j ≡ Some p → i < place → WasAt place i j → weight p < weight_of (rank_of key.priority) key.age e
    ahead i j p at lt (inl x) = before j p (omega (arith, x.0, x.1)) at
    ahead i j p at lt (inr x) = absurd (omega (arith, lt, x.0))

    in_order : (i j : ℕ) (p q : Place) → i < j → OldOrNew order place new i p → OldOrNew order place new j q → weight p < weight q
    in_order i j p q lt (inl x) (inl y) = is.sorted x.0 y.0 p q (monotone place i j x.0 y.0 x.2 y.2 lt) x.1 y.1
    in_order i j p q lt (inl x) (inr y) =
        let less = ahead i x.0 p x.1 (omega (arith, lt, y.0)) x.2 in subst (λ (z : Place). weight p < weight z) (sym y.1) less
    in_order i j p q lt (inr x) (inl y) =
        let more = behind j y.0 q y.1 (omega (arith, lt, x.0)) y.2 in subst (λ (z : Place). weight z < weight q) (sym x.1) more
    in_order i j p q lt (inr x) (inr y) = absurd (omega (arith, lt, x.0, y.0))

    has : (i : ℕ) (p : Place) → OldOrNew order place new i p → HasKey (set keys e (Some key)) p.entity p.key
    has i p (inl x) = get_set_other keys e p.entity (Some key) (other x.0 p x.1) ∙ is.sound x.0 p x.1
    has i p (inr x) = subst (λ (z : Place). HasKey (set keys e (Some key)) z.entity z.key) (sym x.1) (get_set_same keys e None (Some key) none)

    fit : (i : ℕ) (p : Place) → OldOrNew order place new i p → (p.key.age < 2 ^ 32) × (p.entity < 2 ^ 32)
    fit i p (inl x) = is.fits x.0 p x.1
    fit i p (inr x) = subst (λ (z : Place). (z.key.age < 2 ^ 32) × (z.entity < 2 ^ 32)) (sym x.1) (age_fits, e_fits)

    moved : (j : ℕ) (p : Place) (entity : ℕ) (k : Key) → slice_get order j ≡ Some p → p.entity ≡ entity → p.key ≡ k
        → (i : ℕ) × (p : Place) × (slice_get (insert order place new) i ≡ Some p) × (p.entity ≡ entity) × (p.key ≡ k)
    moved j p entity k at e_is k_is =
        elim (nat_lt j place) as (λ t. nat_lt j place ≡ t → (i : ℕ) × (p : Place) × (slice_get (insert order place new) i ≡ Some p) × (p.entity ≡ entity) × (p.key ≡ k)) [
          | true ↦ λ lt. (j, p, get_before order place j new (ltb-true j place lt) le ∙ at, e_is, k_is)
          | false ↦ λ ge. (suc j, p, get_after order place j new (ltb-false j place ge) le ∙ at, e_is, k_is)
        ] refl

-- what the code leaves: the entity was taken out, and there is room for it
pub set_by : (old keys : List (Option Key)) (order seen new : List Place) (place e capacity : ℕ) (key : Key) (done : Bool) → keys ≡ set old e None
    → e < length old → seen ≡ order → IsOrderOf keys order → length keys ≤ capacity → key.age < 2 ^ 32 → e < 2 ^ 32 → place ≤ length seen
    → ((i : ℕ) (p : Place) → i < place → slice_get seen i ≡ Some p → weight p < weight_of (rank_of key.priority) key.age e)
    → ((i : ℕ) (p : Place) → place ≤ i → slice_get seen i ≡ Some p → weight_of (rank_of key.priority) key.age e ≤ weight p)
    → (length order < capacity → done ≡ true) → new ≡ cond done (insert order place (record { key = key; entity = e })) order
    → IsOrderOf (set keys e (Some key)) new
set_by old keys order seen new place e capacity key done keys_is lt seen_is is room age_fits e_fits le before after succeeds new_is =
    let none : slice_get keys e ≡ Some None = subst (λ (l : List (Option Key)). slice_get l e ≡ Some None) (sym keys_is) (get_set_within old e None lt) in
    let fits : length order < capacity = omega (arith, is.count, count_set keys e key none, count_by-le-length is_some (set keys e (Some key)), length-set keys e (Some key), room) in
    let made : new ≡ insert order place (record { key = key; entity = e }) =
    new_is ∙ ap (λ b. cond b (insert order place (record { key = key; entity = e })) order) (succeeds fits) in
    subst (IsOrderOf (set keys e (Some key))) (sym made) (order_set keys order place e key is none age_fits e_fits
    (subst (λ (l : List Place). place ≤ length l) seen_is le)
    (λ i p below at. before i p below (subst (λ (l : List Place). slice_get l i ≡ Some p) (sym seen_is) at))
    (λ i p past at. after i p past (subst (λ (l : List Place). slice_get l i ≡ Some p) (sym seen_is) at)))
