-- The loads of rings and the last jobs of entities stay those of the journal.
use Rattle.std.proofs.Common.{◌≡◌, ℕ, zero, suc, ◌+◌, ◌<◌, ◌≤◌, Bool, true, false, cond, not, ◌&&◌, ◌==◌, List, [], ◌∷◌, ◌++◌, length, set, map, Some, None, Option, refl, sym, ap, subst, ◌∙◌, inl, inr, arith, slice_get}
use Rattle.std.specs.Prelude.{filter, replicate}
use Rattle.std.proofs.lemmas.Bool.{eq-eqb, ne_eqb}
use Rattle.std.proofs.lemmas.Option.{slice_get_within}
use Rattle.std.proofs.lemmas.List.{map-set, map-append, length-map, length-set}
use Rattle.drm_lists.proofs.Places.{stands_within, to_map, get_before_push, get_push_cases}
use Rattle.drm_lists.proofs.Changed.{get_set_cases}
use Rattle.drm_types.specs.declared.spec.DeviceSpec.{DeviceSpec}
use Rattle.drm_fence.specs.Phases.{has_ended}
use Rattle.drm_state.specs.declared.journal.JobRecord.{JobRecord}
use Rattle.drm_state.specs.declared.loads.Loads.{Loads}
use Rattle.drm_state.specs.Arming.{load}
use Rattle.drm_state.specs.Loads.{Standing, standing_of, is_live_on, owner_of, IsLastOf, LoadsStand, LoadsOf}

-- ---- how many elements of a list pass a test

-- what an element counts
abbrev one_if : Bool → ℕ
one_if true = 1
one_if false = 0

-- the first one counts where it passes
counts_first : {X : Type 0} (p : X → Bool) (x : X) (xs : List X) → length (filter p (x ∷ xs)) ≡ one_if (p x) + length (filter p xs)
counts_first p x xs =
    elim (p x) as (λ b. length (cond b (x ∷ filter p xs) (filter p xs)) ≡ one_if b + length (filter p xs)) [ true ↦ omega arith | false ↦ omega arith ]

-- so does one at the end
counts_push : {X : Type 0} (p : X → Bool) (xs : List X) (y : X) → length (filter p (xs ++ y ∷ [])) ≡ length (filter p xs) + one_if (p y)
counts_push p [] y = let one = counts_first p y [] in omega (arith, one)
counts_push p (x ∷ xs) y =
    let longer = counts_first p x (xs ++ y ∷ []) in
    let shorter = counts_first p x xs in
    let rest = counts_push p xs y in
    omega (arith, longer, shorter, rest)

-- and one that is put in the place of another
counts_set : {X : Type 0} (p : X → Bool) (xs : List X) (i : ℕ) (x y : X) → slice_get xs i ≡ Some x
    → length (filter p (set xs i y)) + one_if (p x) ≡ length (filter p xs) + one_if (p y)
counts_set p [] i x y at = absurd (cc (at))
counts_set p (z ∷ zs) zero x y at =
    let same : z ≡ x = cc (at) in
    let new = counts_first p y zs in
    let old = counts_first p z zs in
    let alike = ap (λ w. one_if (p w)) same in
    omega (arith, new, old, alike)
counts_set p (z ∷ zs) (suc i) x y at =
    let new = counts_first p z (set zs i y) in
    let old = counts_first p z zs in
    let rest = counts_set p zs i x y at in
    omega (arith, new, old, rest)

-- no more pass than there are
counts_most : {X : Type 0} (p : X → Bool) (xs : List X) → length (filter p xs) ≤ length xs
counts_most p [] = omega arith
counts_most p (x ∷ xs) =
    let count = counts_first p x xs in
    let most : one_if (p x) ≤ 1 = elim (p x) as (λ b. one_if b ≤ 1) [ true ↦ omega arith | false ↦ omega arith ] in
    let rest = counts_most p xs in
    omega (arith, count, most, rest)

-- a list that is mapped alike where one element changed
pub map_set_same : {X Y : Type 0} (h : X → Y) (xs : List X) (i : ℕ) (x y : X) → slice_get xs i ≡ Some x → h y ≡ h x → map h (set xs i y) ≡ map h xs
map_set_same h [] i x y at same = absurd (cc (at))
map_set_same h (z ∷ zs) zero x y at same = let is : z ≡ x = cc (at) in ap (λ w. w ∷ map h zs) (same ∙ ap h (sym is))
map_set_same h (z ∷ zs) (suc i) x y at same = ap (λ ws. h z ∷ ws) (map_set_same h zs i x y at same)

-- ---- the loads of a journal

-- the load of a ring by where its jobs stand
pub load_is : (journal : List JobRecord) (ring : ℕ) → load journal ring ≡ length (filter (is_live_on ring) (map standing_of journal))
load_is [] ring = refl
load_is (r ∷ rs) ring =
    counts_first (λ (x : JobRecord). (x.ring == ring) && not (has_ended x.phase)) r rs
    ∙ (ap (λ n. one_if ((r.ring == ring) && not (has_ended r.phase)) + n) (load_is rs ring) ∙ sym (counts_first (is_live_on ring) (standing_of r) (map standing_of rs)))

-- and the number of those that have an outcome
pub ended_is : (journal : List JobRecord) → length (filter (λ (r : JobRecord). has_ended r.phase) journal) ≡ length (filter (λ (s : Standing). s.ended) (map standing_of journal))
ended_is [] = refl
ended_is (r ∷ rs) =
    counts_first (λ (x : JobRecord). has_ended x.phase) r rs
    ∙ (ap (λ n. one_if (has_ended r.phase) + n) (ended_is rs) ∙ sym (counts_first (λ (s : Standing). s.ended) (standing_of r) (map standing_of rs)))

-- they stay where no job changes its ring, its entity or whether it has an outcome
pub loads_same : (spec : DeviceSpec) (old new : List JobRecord) (loads : Loads) → LoadsOf spec old loads
    → map standing_of new ≡ map standing_of old → map owner_of new ≡ map owner_of old → LoadsOf spec new loads
loads_same spec old new loads stand standings owners =
    subst (λ os. LoadsStand spec (map standing_of new) os loads) (sym owners) (subst (λ ss. LoadsStand spec ss (map owner_of old) loads) (sym standings) stand)

-- one record that keeps these keeps them
pub loads_set : (spec : DeviceSpec) (journal : List JobRecord) (f : ℕ) (r new : JobRecord) (loads : Loads) → LoadsOf spec journal loads → slice_get journal f ≡ Some r
    → standing_of new ≡ standing_of r → owner_of new ≡ owner_of r → LoadsOf spec (set journal f new) loads
loads_set spec journal f r new loads stand at standing owner =
    loads_same spec journal (set journal f new) loads stand (map_set_same standing_of journal f r new at standing) (map_set_same owner_of journal f r new at owner)

-- one job more on a ring, and none of another
on_ring : (ring : ℕ) (s : Standing) → s.ring ≡ ring → s.ended ≡ false → one_if (is_live_on ring s) ≡ 1
on_ring ring s is going = ap (λ b. one_if (b && not s.ended)) (eq-eqb s.ring ring is) ∙ ap (λ b. one_if (not b)) going

off_ring : (ring : ℕ) (s : Standing) → (s.ring ≡ ring → ⊥) → one_if (is_live_on ring s) ≡ 0
off_ring ring s apart = ap (λ b. one_if (b && not s.ended)) (ne_eqb s.ring ring apart)

not_live : (ring : ℕ) (s : Standing) → s.ended ≡ true → one_if (is_live_on ring s) ≡ 0
not_live ring s ended =
    elim (s.ring == ring) as (λ b. one_if (b && not s.ended) ≡ 0) [ true ↦ ap (λ b. one_if (not b)) ended | false ↦ refl ]

-- the last job of each entity, with one job more
last_pushed : (owners : List ℕ) (entity other : ℕ) (o : Option ℕ) → IsLastOf owners other o → (other ≡ entity → ⊥) → IsLastOf (owners ++ entity ∷ []) other o
last_pushed owners entity other None none apart =
    λ i at. elim (get_push_cases owners entity i other at) [ inl old ↦ none i old | inr it ↦ apart it.1 ]
last_pushed owners entity other (Some last) is apart = (
  get_before_push owners entity last other is.0,
  λ i lt at. elim (get_push_cases owners entity i other at) [ inl old ↦ is.1 i lt old | inr it ↦ apart it.1 ],
)

newest : (owners : List ℕ) (entity : ℕ) → IsLastOf (owners ++ entity ∷ []) entity (Some (length owners))
newest owners entity = (
  at_end owners,
  λ i lt at.
      elim (get_push_cases owners entity i entity at) [
        | inl old ↦ let within = slice_get_within owners i entity old in omega (arith, lt, within)
        | inr it ↦ let place = it.0 in omega (arith, lt, place)
      ],
)
  where
    at_end : (xs : List ℕ) → slice_get (xs ++ entity ∷ []) (length xs) ≡ Some entity
    at_end [] = refl
    at_end (x ∷ xs) = at_end xs

-- a job that is armed
pub loads_armed : (spec : DeviceSpec) (journal : List JobRecord) (new : JobRecord) (loads after : Loads) → LoadsOf spec journal loads → has_ended new.phase ≡ false
    → new.ring < length spec.rings
    → ((n : ℕ) → slice_get loads.live.items new.ring ≡ Some n → after.live.items ≡ set loads.live.items new.ring (n + 1))
    → after.last.items ≡ set loads.last.items new.job.entity (Some (length journal)) → after.ended ≡ loads.ended → new.job.entity < length spec.entities
    → LoadsOf spec (journal ++ new ∷ []) after
loads_armed spec journal new loads after stand going ring_there live_is last_is ended_same entity_there =
    subst (λ os. LoadsStand spec (map standing_of (journal ++ new ∷ [])) os after) (sym (map-append owner_of journal (new ∷ [])))
    (subst (λ ss. LoadsStand spec ss (owners ++ new.job.entity ∷ []) after) (sym (map-append standing_of journal (new ∷ []))) (record {
      rings = ap length live_set ∙ (length-set loads.live.items new.ring (was.0 + 1) ∙ stand.rings);
      entities = ap length last_is ∙ (length-set loads.last.items new.job.entity (Some (length journal)) ∙ stand.entities);
      live = λ ring n at.
          let count = counts_push (is_live_on ring) standings (standing_of new) in
          elim (get_set_cases loads.live.items new.ring ring was.0 (was.0 + 1) n was.1 (ap (λ xs. slice_get xs ring) (sym live_set) ∙ at)) [
            | inl here ↦
                let old = stand.live new.ring was.0 was.1 in
                let one = on_ring ring (standing_of new) (sym here.0) going in
                let same = ap (λ k. length (filter (is_live_on k) standings)) here.0 in
                let more = here.1 in
                omega (arith, count, old, one, same, more)
            | inr there ↦
                let old = stand.live ring n there.1 in
                let none = off_ring ring (standing_of new) (λ same. there.0 (sym same)) in
                omega (arith, count, old, none)
          ];
      last = λ entity o at.
          elim (get_set_cases loads.last.items new.job.entity entity had.0 (Some (length journal)) o had.1 (ap (λ xs. slice_get xs entity) (sym last_is) ∙ at)) [
            | inl here ↦
                subst (λ e. IsLastOf (owners ++ new.job.entity ∷ []) e o) (sym here.0)
                (subst (λ z. IsLastOf (owners ++ new.job.entity ∷ []) new.job.entity z) (sym here.1)
                (subst (λ n. IsLastOf (owners ++ new.job.entity ∷ []) new.job.entity (Some n)) (length-map journal owner_of) (newest owners new.job.entity)))
            | inr there ↦ last_pushed owners new.job.entity entity o (stand.last entity o there.1) there.0
          ];
      ended =
          let count = counts_push (λ (s : Standing). s.ended) standings (standing_of new) in
          let none = ap one_if going in
          let old = stand.ended in
          omega (arith, count, none, old, ended_same);
    }))
  where
    standings : List Standing
    standings = map standing_of journal

    owners : List ℕ
    owners = map owner_of journal

    was : (n : ℕ) × (slice_get loads.live.items new.ring ≡ Some n)
    was = stands_within loads.live.items new.ring (subst (λ n. new.ring < n) (sym stand.rings) ring_there)

    had : (o : Option ℕ) × (slice_get loads.last.items new.job.entity ≡ Some o)
    had = stands_within loads.last.items new.job.entity (subst (λ n. new.job.entity < n) (sym stand.entities) entity_there)

    live_set : after.live.items ≡ set loads.live.items new.ring (was.0 + 1)
    live_set = live_is was.0 was.1

-- a ring has at most all jobs
pub few_live : (spec : DeviceSpec) (journal : List JobRecord) (loads : Loads) (ring n : ℕ) → LoadsOf spec journal loads → slice_get loads.live.items ring ≡ Some n
    → n ≤ length journal
few_live spec journal loads ring n stand at =
    let is = stand.live ring n at in
    let most = counts_most (is_live_on ring) (map standing_of journal) in
    let count = length-map journal standing_of in
    omega (arith, is, most, count)

-- so do those that have an outcome
pub few_ended : (spec : DeviceSpec) (journal : List JobRecord) (loads : Loads) → LoadsOf spec journal loads → loads.ended ≤ length journal
few_ended spec journal loads stand =
    let is = stand.ended in
    let most = counts_most (λ (s : Standing). s.ended) (map standing_of journal) in
    let count = length-map journal standing_of in
    omega (arith, is, most, count)

-- a ring with a job that has no outcome has one at least
pub some_live : (spec : DeviceSpec) (journal : List JobRecord) (loads : Loads) (f n : ℕ) (r : JobRecord) → LoadsOf spec journal loads → slice_get journal f ≡ Some r
    → has_ended r.phase ≡ false → slice_get loads.live.items r.ring ≡ Some n → 0 < n
some_live spec journal loads f n r stand at going at_n =
    let ended : Standing = record { ring = r.ring; ended = true } in
    let count = counts_set (is_live_on r.ring) (map standing_of journal) f (standing_of r) ended (to_map standing_of journal f r at) in
    let one = on_ring r.ring (standing_of r) refl going in
    let none = not_live r.ring ended refl in
    let is = stand.live r.ring n at_n in
    omega (arith, count, one, none, is)

-- a job that ends
pub loads_ended : (spec : DeviceSpec) (journal : List JobRecord) (f : ℕ) (r new : JobRecord) (loads after : Loads) → LoadsOf spec journal loads → slice_get journal f ≡ Some r
    → has_ended r.phase ≡ false → has_ended new.phase ≡ true → new.ring ≡ r.ring → owner_of new ≡ owner_of r → r.ring < length spec.rings
    → ((n : ℕ) → slice_get loads.live.items r.ring ≡ Some (n + 1) → after.live.items ≡ set loads.live.items r.ring n) → after.last ≡ loads.last → after.ended ≡ loads.ended + 1
    → LoadsOf spec (set journal f new) after
loads_ended spec journal f r new loads after stand at going gone same_ring owner ring_there live_is last_is one_more =
    subst (λ os. LoadsStand spec (map standing_of (set journal f new)) os after) (sym (map_set_same owner_of journal f r new at owner))
    (subst (λ ss. LoadsStand spec ss (map owner_of journal) after) (sym (map-set standing_of journal f new)) (record {
      rings = ap length live_set ∙ (length-set loads.live.items r.ring left ∙ stand.rings);
      entities = ap (λ (v : _). length v.items) last_is ∙ stand.entities;
      live = λ ring n at_n.
          let count = counts_set (is_live_on ring) standings f (standing_of r) (standing_of new) there in
          let over = not_live ring (standing_of new) gone in
          elim (get_set_cases loads.live.items r.ring ring (left + 1) left n was (ap (λ xs. slice_get xs ring) (sym live_set) ∙ at_n)) [
            | inl here ↦
                let one = on_ring ring (standing_of r) (sym here.0) going in
                let same = ap (λ k. length (filter (is_live_on k) standings)) here.0 in
                let less = here.1 in
                omega (arith, count, over, one, same, less, fewer)
            | inr other ↦
                let old = stand.live ring n other.1 in
                let none = off_ring ring (standing_of r) (λ same. other.0 (sym same)) in
                omega (arith, count, over, old, none)
          ];
      last = λ entity o at_o. stand.last entity o (ap (λ (v : _). slice_get v.items entity) (sym last_is) ∙ at_o);
      ended =
          let count = counts_set (λ (s : Standing). s.ended) standings f (standing_of r) (standing_of new) there in
          let was_going = ap one_if going in
          let is_gone = ap one_if gone in
          let old = stand.ended in
          omega (arith, count, was_going, is_gone, old, one_more);
    }))
  where
    standings : List Standing
    standings = map standing_of journal

    there : slice_get standings f ≡ Some (standing_of r)
    there = to_map standing_of journal f r at

    left : ℕ
    left = length (filter (is_live_on r.ring) (set standings f (standing_of new)))

    fewer : length (filter (is_live_on r.ring) standings) ≡ left + 1
    fewer =
        let count = counts_set (is_live_on r.ring) standings f (standing_of r) (standing_of new) there in
        let one = on_ring r.ring (standing_of r) refl going in
        let none = not_live r.ring (standing_of new) gone in
        omega (arith, count, one, none)

    was : slice_get loads.live.items r.ring ≡ Some (left + 1)
    was =
        let n = stands_within loads.live.items r.ring (subst (λ n. r.ring < n) (sym stand.rings) ring_there) in
        n.1 ∙ ap Some (stand.live r.ring n.0 n.1 ∙ fewer)

    live_set : after.live.items ≡ set loads.live.items r.ring left
    live_set = live_is left was

-- before the first job
pub loads_blank : (spec : DeviceSpec) (loads : Loads) → loads.live.items ≡ replicate (length spec.rings) 0 → loads.last.items ≡ replicate (length spec.entities) None → loads.ended ≡ 0
    → LoadsOf spec [] loads
loads_blank spec loads live last ended = record {
  rings = ap length live ∙ length_same (length spec.rings) 0;
  entities = ap length last ∙ length_same (length spec.entities) None;
  live = λ ring n at. all_alike (length spec.rings) ring 0 n (ap (λ xs. slice_get xs ring) (sym live) ∙ at);
  last = λ entity o at.
      let none = all_alike (length spec.entities) entity None o (ap (λ xs. slice_get xs entity) (sym last) ∙ at) in
      subst (IsLastOf [] entity) (sym none) (λ i found. absurd (cc (found)));
  ended = ended;
}
  where
    length_same : {X : Type 0} (n : ℕ) (x : X) → length (replicate n x) ≡ n
    length_same zero x = refl
    length_same (suc n) x = ap suc (length_same n x)

    all_alike : {X : Type 0} (n i : ℕ) (x y : X) → slice_get (replicate n x) i ≡ Some y → y ≡ x
    all_alike zero i x y at = absurd (cc (at))
    all_alike (suc n) zero x y at = let same : x ≡ y = cc (at) in sym same
    all_alike (suc n) (suc i) x y at = all_alike n i x y at
