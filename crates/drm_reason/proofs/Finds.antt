-- The first of the earlier records that passes a test, and the first queued record of an entity.
use Rattle.std.proofs.Common.{◌≡◌, ℕ, zero, suc, ◌+◌, ◌<◌, Bool, true, false, not, cond, ◌&&◌, ◌==◌, List, [], ◌∷◌, take, Some, None, refl, sym, ap, subst, ◌∙◌, inl, inr, arith, slice_get}
use Rattle.std.specs.Prelude.{find, filter}
use Rattle.std.specs.List.{list_all}
use Rattle.std.proofs.lemmas.Bool.{and_from, and_parts, both_ways, cases_Bool, eq-eqb, eqb-true}
use Rattle.drm_types.specs.Firsts.{first}
use Rattle.drm_fence.specs.Phases.{is_queued}
use Rattle.drm_state.specs.declared.journal.JobRecord.{JobRecord}
use Rattle.drm_state.specs.Journal.{numbered}
use Rattle.drm_state.specs.Choice.{queue_of}
use Rattle.drm_state.specs.Chosen.{IsFirstQueued}
use Rattle.drm_lists.proofs.Places.{get_numbered, get_take}
use Rattle.drm_state.proofs.ChoiceIs.{first-filter, is_queued_of, numbered_get}
use Rattle.drm_state.proofs.Found.{find_at, find_none}
use Rattle.drm_state.proofs.Homes.{none_passes}
use Rattle.drm_lists.proofs.Searches.{find_first}

-- ---- lists

-- what stands in the front of a list
taken : {X : Type 0} (xs : List X) (n k : ℕ) (x : X) → slice_get (take n xs) k ≡ Some x → (k < n) × (slice_get xs k ≡ Some x)
taken [] zero k x at = absurd (let never : None ≡ Some x = at in cc (never))
taken [] (suc n) k x at = absurd (let never : None ≡ Some x = at in cc (never))
taken (y ∷ ys) zero k x at = absurd (let never : None ≡ Some x = at in cc (never))
taken (y ∷ ys) (suc n) zero x at = (omega arith, at)
taken (y ∷ ys) (suc n) (suc k) x at = let inside = taken ys n k x at in (omega (arith, inside.0), inside.1)

-- what is found in a filtered list is found by both tests
pub find-filter : {X : Type 0} (q p : X → Bool) (xs : List X) → find q (filter p xs) ≡ find (λ x. p x && q x) xs
find-filter q p [] = refl
find-filter {X} q p (x ∷ xs) =
    elim (p x) as (λ b. find q (cond b (x ∷ filter p xs) (filter p xs)) ≡ cond (b && q x) (Some x) (find (λ y. p y && q y) xs)) [
      | true ↦ ap (λ o. cond (q x) (Some x) o) (find-filter q p xs)
      | false ↦ find-filter q p xs
    ]

-- where none fails a test, all pass it
pub all_where_none : {X : Type 0} (t : X → Bool) (xs : List X) → find (λ x. not (t x)) xs ≡ None → list_all t xs ≡ true
all_where_none t [] none = refl
all_where_none {X} t (x ∷ xs) none =
    elim (t x) as (λ b. cond (not b) (Some x) (find (λ y. not (t y)) xs) ≡ None → (b && list_all t xs) ≡ true) [
      | true ↦ λ rest. all_where_none t xs rest
      | false ↦ λ found. absurd (let never : Some x ≡ None = found in cc (never))
    ] none

pub none_where_all : {X : Type 0} (t : X → Bool) (xs : List X) → list_all t xs ≡ true → find (λ x. not (t x)) xs ≡ None
none_where_all t [] all = refl
none_where_all t (x ∷ xs) all =
    let parts = and_parts (t x) (list_all t xs) all in
    ap (λ b. cond (not b) (Some x) (find (λ y. not (t y)) xs)) parts.0 ∙ none_where_all t xs parts.1

-- what a filter keeps passes a test, where all that it would keep do
pub all_kept : {X : Type 0} (q p : X → Bool) (xs : List X) → ((k : ℕ) (x : X) → slice_get xs k ≡ Some x → p x ≡ true → q x ≡ true)
    → list_all q (filter p xs) ≡ true
all_kept q p [] each = refl
all_kept {X} q p (x ∷ xs) each =
    elim (p x) as (λ b. p x ≡ b → list_all q (cond b (x ∷ filter p xs) (filter p xs)) ≡ true) [
      | true ↦ λ kept. and_from (q x) (list_all q (filter p xs)) (each 0 x refl kept) (all_kept q p xs (λ k. each (suc k)))
      | false ↦ λ left. all_kept q p xs (λ k. each (suc k))
    ] refl

-- ---- earlier records

-- of the records before n this is the first that passes a test of it and its number
pub record IsFirstBefore (js : List JobRecord) (n : ℕ) (p : ℕ × JobRecord → Bool) (k : ℕ) (x : JobRecord) : Type 0 where
  pub within : k < n
  pub at : slice_get js k ≡ Some x
  pub passes : p (k, x) ≡ true
  pub before : (i : ℕ) (y : JobRecord) → i < k → slice_get js i ≡ Some y → p (i, y) ≡ false

-- an earlier record stands in the front under its number
pub in_front : (js : List JobRecord) (n i : ℕ) (x : JobRecord) → i < n → slice_get js i ≡ Some x → slice_get (take n (numbered js)) i ≡ Some (i, x)
in_front js n i x less at =
    let same : 0 + i ≡ i = omega arith in
    get_take (numbered js) n i less ∙ (get_numbered js 0 i x at ∙ ap (λ (m : ℕ). Some (m, x)) same)

-- and what stands there is an earlier record with its number
pub of_front : (js : List JobRecord) (n i : ℕ) (m : ℕ × JobRecord) → slice_get (take n (numbered js)) i ≡ Some m
    → (i < n) × (i ≡ m.0) × (slice_get js m.0 ≡ Some m.1)
of_front js n i m at =
    let inside = taken (numbered js) n i m at in
    let place = numbered_get js 0 i m inside.1 in
    let same : i ≡ m.0 = omega (arith, place.0) in
    (inside.0, same, subst (λ k. slice_get js k ≡ Some m.1) same place.1)

pub first_before : (js : List JobRecord) (n : ℕ) (p : ℕ × JobRecord → Bool) (m : ℕ × JobRecord) → find p (take n (numbered js)) ≡ Some m
    → IsFirstBefore js n p m.0 m.1
first_before js n p m is =
    let found = find_first p (take n (numbered js)) m is in
    let front = of_front js n found.0 m found.1 in
    record {
      within = omega (arith, front.0, front.1);
      at = front.2;
      passes = found.2;
      before = λ i y less at. found.3 i (i, y) (omega (arith, less, front.1)) (in_front js n i y (omega (arith, less, front.0, front.1)) at);
    }

pub finds_before : (js : List JobRecord) (n : ℕ) (p : ℕ × JobRecord → Bool) (k : ℕ) (x : JobRecord) → IsFirstBefore js n p k x
    → find p (take n (numbered js)) ≡ Some (k, x)
finds_before js n p k x is =
    find_at p (take n (numbered js)) k (k, x) (in_front js n k x is.within is.at) is.passes
    (λ i y less at.
    let front = of_front js n i y at in
    subst (λ (m : ℕ). p (m, y.1) ≡ false) front.1 (is.before i y.1 less (subst (λ (m : ℕ). slice_get js m ≡ Some y.1) (sym front.1) front.2)))

pub none_before : (js : List JobRecord) (n : ℕ) (p : ℕ × JobRecord → Bool) (i : ℕ) (x : JobRecord) → find p (take n (numbered js)) ≡ None
    → i < n → slice_get js i ≡ Some x → p (i, x) ≡ false
none_before js n p i x none less at = none_passes p (take n (numbered js)) none i (i, x) (in_front js n i x less at)

pub finds_none_before : (js : List JobRecord) (n : ℕ) (p : ℕ × JobRecord → Bool)
    → ((i : ℕ) (x : JobRecord) → i < n → slice_get js i ≡ Some x → p (i, x) ≡ false) → find p (take n (numbered js)) ≡ None
finds_none_before js n p each =
    find_none p (take n (numbered js))
    (λ i y at.
    let front = of_front js n i y at in
    subst (λ (m : ℕ). p (m, y.1) ≡ false) front.1 (each i y.1 front.0 (subst (λ (m : ℕ). slice_get js m ≡ Some y.1) (sym front.1) front.2)))

-- ---- the queue of an entity

pub first_queued : (js : List JobRecord) (entity : ℕ) (m : ℕ × JobRecord) → first (queue_of entity js) ≡ Some m → IsFirstQueued js entity m.0 m.1
first_queued js entity m is =
    let found = find_first (is_queued_of entity) (numbered js) m (sym (first-filter (is_queued_of entity) (numbered js)) ∙ is) in
    let place = numbered_get js 0 found.0 m found.1 in
    let same : found.0 ≡ m.0 = omega (arith, place.0) in
    let parts = and_parts (m.1.job.entity == entity) (is_queued m.1.phase) found.2 in
    record {
      at = subst (λ k. slice_get js k ≡ Some m.1) same place.1;
      of_entity = eqb-true m.1.job.entity entity parts.0;
      queued = parts.1;
      first = λ i x less at of_it.
          let fails : is_queued_of entity (0 + i, x) ≡ false = found.3 i (0 + i, x) (omega (arith, less, same)) (get_numbered js 0 i x at) in
          elim (cases_Bool (is_queued x.phase)) [
            | inr no_more ↦ no_more
            | inl waits ↦
                absurd (both_ways (is_queued_of entity (0 + i, x)) fails
                (and_from (x.job.entity == entity) (is_queued x.phase) (eq-eqb x.job.entity entity of_it) waits))
          ];
    }

pub queue_begins : (js : List JobRecord) (entity h : ℕ) (head : JobRecord) → IsFirstQueued js entity h head → first (queue_of entity js) ≡ Some (h, head)
queue_begins js entity h head is =
    let same : 0 + h ≡ h = omega arith in
    first-filter (is_queued_of entity) (numbered js)
    ∙ (find_at (is_queued_of entity) (numbered js) h (0 + h, head) (get_numbered js 0 h head is.at) passes before ∙ ap (λ (m : ℕ). Some (m, head)) same)
  where
    passes : is_queued_of entity (0 + h, head) ≡ true
    passes = and_from (head.job.entity == entity) (is_queued head.phase) (eq-eqb head.job.entity entity is.of_entity) is.queued

    before : (i : ℕ) (n : ℕ × JobRecord) → i < h → slice_get (numbered js) i ≡ Some n → is_queued_of entity n ≡ false
    before i n less at =
        let there = numbered_get js 0 i n at in
        elim (cases_Bool (is_queued_of entity n)) [
          | inr fails ↦ fails
          | inl waits ↦
              let parts = and_parts (n.1.job.entity == entity) (is_queued n.1.phase) waits in
              absurd (both_ways (is_queued n.1.phase) (is.first i n.1 less there.1 (eqb-true n.1.job.entity entity parts.0)) parts.1)
        ]

-- a queue in which a job waits is not empty
pub queue_has : (js : List JobRecord) (n : ℕ) (job : JobRecord) → slice_get js n ≡ Some job → is_queued job.phase ≡ true
    → first (queue_of job.job.entity js) ≡ None → ⊥
queue_has js n job at queued none =
    both_ways (is_queued_of job.job.entity (0 + n, job))
    (none_passes (is_queued_of job.job.entity) (numbered js) (sym (first-filter (is_queued_of job.job.entity) (numbered js)) ∙ none) n (0 + n, job) (get_numbered js 0 n job at))
    (and_from (job.job.entity == job.job.entity) (is_queued job.phase) (eq-eqb job.job.entity job.job.entity refl) queued)

-- an entity has one first queued job
pub one_first : (js : List JobRecord) (entity f g : ℕ) (x y : JobRecord) → IsFirstQueued js entity f x → IsFirstQueued js entity g y → f ≡ g
one_first js entity f g x y a b =
    let is : Some (f, x) ≡ Some (g, y) = sym (queue_begins js entity f x a) ∙ queue_begins js entity g y b in
    let same : ◌≡◌ {A = ℕ × JobRecord} (f, x) (g, y) = cc (is) in
    ap (λ (m : ℕ × JobRecord). m.0) same
