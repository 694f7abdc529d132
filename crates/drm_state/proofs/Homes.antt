-- On which rings the jobs of an entity stand: those without outcomes on one, and each on a listed one.
use Rattle.std.proofs.Common.{◌≡◌, ℕ, zero, suc, ◌<◌, Bool, true, false, cond, not, ◌&&◌, ◌==◌, List, [], ◌∷◌, length, Some, None, refl, sym, ap, subst, ◌∙◌, inl, inr, ◌⊎◌, arith, slice_get}
use Rattle.std.specs.Prelude.{IsTrue, Contains, option_map, find, fold, nat_lt}
use Rattle.std.specs.Option.{option_map_or}
use Rattle.std.specs.List.{list_all}
use Rattle.std.proofs.lemmas.Bool.{both_ways, and_parts, and_from, cases_Bool, eqb-true, eq-eqb, ltb-true, ltb-false}
use Rattle.drm_lists.proofs.Searches.{find_first, all_at}
use Rattle.drm_lists.proofs.Places.{place_of}
use Rattle.drm_types.specs.Firsts.{first}
use Rattle.drm_types.specs.Limits.{is_between, are_distinct, are_rings}
use Rattle.drm_fence.specs.Phases.{has_ended}
use Rattle.drm_state.specs.declared.journal.JobRecord.{JobRecord}
use Rattle.drm_state.specs.State.{DeviceState}
use Rattle.drm_state.specs.Arming.{rings_of, first_ring, load, less_loaded, least_loaded, is_live, arming_ring}
use Rattle.drm_state.specs.Steady.{IsRingOf, IsSteady}

-- of two jobs of an entity that have no outcome, each is on the other's ring
pub one_ring : (d : DeviceState) (i j : ℕ) (x y : JobRecord) → IsSteady d → slice_get d.journal i ≡ Some x → slice_get d.journal j ≡ Some y
    → x.job.entity ≡ y.job.entity → has_ended x.phase ≡ false → has_ended y.phase ≡ false → x.ring ≡ y.ring
one_ring d i j x y steady at_x at_y same going_x going_y =
    elim (cases_Bool (nat_lt i j)) [
      | inl before ↦ elim (steady.home i j x y (ltb-true i j before) at_x at_y same) [
        | inl ended ↦ absurd (both_ways (has_ended x.phase) going_x ended)
        | inr on ↦ on
      ]
      | inr not_before ↦ elim (cases_Bool (nat_lt j i)) [
        | inl after ↦ elim (steady.home j i y x (ltb-true j i after) at_y at_x (sym same)) [
          | inl ended ↦ absurd (both_ways (has_ended y.phase) going_y ended)
          | inr on ↦ sym on
        ]
        | inr not_after ↦
            let place : i ≡ j = omega (arith, ltb-false i j not_before, ltb-false j i not_after) in
            let is : x ≡ y = cc (at_x, at_y, place) in
            ap (λ (z : JobRecord). z.ring) is
      ]
    ]

-- where nothing is found, the first fails, and nothing is found behind it
none_before : {X : Type 0} (p : X → Bool) (y : X) (ys : List X) → find p (y ∷ ys) ≡ None → (p y ≡ false) × (find p ys ≡ None)
none_before {X} p y ys none =
    elim (p y) as (λ t. cond t (Some y) (find p ys) ≡ None → (t ≡ false) × (find p ys ≡ None)) [
      | true ↦ λ found. absurd (let never : Some y ≡ None = found in cc (never))
      | false ↦ λ rest. (refl, rest)
    ] none

-- and no element passes
pub none_passes : {X : Type 0} (p : X → Bool) (xs : List X) → find p xs ≡ None → (k : ℕ) (x : X) → slice_get xs k ≡ Some x → p x ≡ false
none_passes p [] none k x at = absurd (cc (at))
none_passes p (y ∷ ys) none zero x at = let same : y ≡ x = cc (at) in ap p (sym same) ∙ (none_before p y ys none).0
none_passes p (y ∷ ys) none (suc k) x at = none_passes p ys (none_before p y ys none).1 k x at

-- a job of the entity stays home beside one that is armed now
pub arming_home : (d : DeviceState) (entity i : ℕ) (x : JobRecord) → IsSteady d → slice_get d.journal i ≡ Some x → x.job.entity ≡ entity
    → IsTrue (has_ended x.phase) ⊎ (x.ring ≡ arming_ring d entity)
arming_home d entity i x steady at_x of_it =
    elim (cases_Bool (has_ended x.phase)) [
      | inl ended ↦ inl ended
      | inr going ↦
          let live : is_live entity x ≡ true = and_from (x.job.entity == entity) (not (has_ended x.phase)) (eq-eqb x.job.entity entity of_it) (ap not going) in
          elim (find (is_live entity) d.journal) as (λ o. find (is_live entity) d.journal ≡ o
          → IsTrue (has_ended x.phase) ⊎ (x.ring ≡ option_map_or (λ (ring : ℕ). ring) (option_map (λ (r : JobRecord). r.ring) o) (least_loaded d entity))) [
            | None ↦ λ none. absurd (both_ways (is_live entity x) (none_passes (is_live entity) d.journal none i x at_x) live)
            | Some r ↦ λ some.
                let found = find_first (is_live entity) d.journal r some in
                let parts = and_parts (r.job.entity == entity) (not (has_ended r.phase)) found.2 in
                inr (one_ring d i found.0 x r steady at_x found.1 (of_it ∙ sym (eqb-true r.job.entity entity parts.0)) going (not_true (has_ended r.phase) parts.1))
          ] refl
    ]
  where
    not_true : (b : Bool) → not b ≡ true → b ≡ false
    not_true true is = sym is
    not_true false is = refl

-- the least loaded of a list, with one ring before it
pub least_listed : (js : List JobRecord) (best : ℕ) (rings : List ℕ)
    → (fold (less_loaded js) best rings ≡ best) ⊎ Contains rings (fold (less_loaded js) best rings)
least_listed js best [] = inl refl
least_listed js best (x ∷ xs) =
    elim (nat_lt (load js x) (load js best)) as (λ b. (fold (less_loaded js) (cond b x best) xs ≡ best) ⊎ Contains (x ∷ xs) (fold (less_loaded js) (cond b x best) xs)) [
      | true ↦ elim (least_listed js x xs) [ inl is ↦ inr (0, omega arith, sym is) | inr c ↦ inr (suc c.0, omega (arith, c.1), c.2) ]
      | false ↦ elim (least_listed js best xs) [ inl is ↦ inl is | inr c ↦ inr (suc c.0, omega (arith, c.1), c.2) ]
    ]

-- the ring of a job that is armed now is a listed one
pub arming_listed : (d : DeviceState) (entity : ℕ) → IsSteady d → IsRingOf d.spec entity (arming_ring d entity)
arming_listed d entity steady =
    elim (find (is_live entity) d.journal) as (λ o. find (is_live entity) d.journal ≡ o
    → IsRingOf d.spec entity (option_map_or (λ (ring : ℕ). ring) (option_map (λ (r : JobRecord). r.ring) o) (least_loaded d entity))) [
      | None ↦ λ none. least_listed d.journal (first_ring d.spec entity) (rings_of d.spec entity)
      | Some r ↦ λ some.
          let found = find_first (is_live entity) d.journal r some in
          let of_it = eqb-true r.job.entity entity (and_parts (r.job.entity == entity) (not (has_ended r.phase)) found.2).0 in
          subst (λ e. IsRingOf d.spec e r.ring) of_it (steady.listed found.0 r found.1)
    ] refl

-- a listed ring is there, where the lists are within their limits
pub listed_there : (rings : List ℕ) (count ring : ℕ) → are_rings count rings ≡ true
    → (ring ≡ option_map_or (λ r. r) (first rings) 0) ⊎ Contains rings ring → ring < count
listed_there [] count ring fit listed = let never : false ≡ true = fit in absurd (cc (never))
listed_there (x ∷ xs) count ring fit listed =
    let parts = and_parts (is_between 1 8 (length (x ∷ xs)) && list_all (λ r. nat_lt r count) (x ∷ xs)) (are_distinct (x ∷ xs)) fit in
    let all = (and_parts (is_between 1 8 (length (x ∷ xs))) (list_all (λ r. nat_lt r count) (x ∷ xs)) parts.0).1 in
    elim listed [
      | inl is ↦ subst (λ n. n < count) (sym is) (ltb-true x count (all_at (λ r. nat_lt r count) (x ∷ xs) 0 x all refl))
      | inr c ↦ let place = place_of (x ∷ xs) ring c in ltb-true ring count (all_at (λ r. nat_lt r count) (x ∷ xs) place.0 ring all place.1)
    ]
