-- The latest dependency of each entity stands for all its earlier ones.
use Rattle.std.proofs.Common.{◌≡◌, ℕ, zero, suc, ◌+◌, ◌<◌, ◌≤◌, Bool, true, false, not, ◌&&◌, ◌||◌, ◌==◌, List, [], ◌∷◌, take, Some, refl, sym, ap, subst, ◌∙◌, inl, inr, ◌⊎◌, arith, slice_get}
use Rattle.std.specs.Prelude.{IsTrue}
use Rattle.std.specs.List.{list_all}
use Rattle.std.proofs.lemmas.Bool.{and_parts, and_from, or_left, or_right, cases_eq}
use Rattle.std.proofs.lemmas.List.Elements.{All-contains}
use Rattle.drm_lists.proofs.Searches.{all_at}
use Rattle.drm_lists.proofs.Places.{contains_at, place_of, get_numbered, get_take}
use Rattle.drm_fence.specs.Phases.{is_queued, has_ended}
use Rattle.drm_state.specs.declared.journal.JobRecord.{JobRecord}
use Rattle.drm_state.specs.State.{DeviceState}
use Rattle.drm_state.specs.Journal.{numbered, is_at}
use Rattle.drm_state.specs.Order.{comes_after, is_met, dependencies}
use Rattle.drm_state.specs.Steady.{IsSteady}
use Rattle.drm_state.specs.Waits.{IsDependency, DepsStand}
use Rattle.drm_state.proofs.Records.{at_test}
use Rattle.drm_state.proofs.ChoiceIs.{numbered_get, all_of_filter, in_filter}

-- all elements pass where each does, and the other way round
pub all_from : {X : Type 0} (q : X → Bool) (xs : List X) → ((k : ℕ) (x : X) → slice_get xs k ≡ Some x → q x ≡ true) → list_all q xs ≡ true
all_from q [] each = refl
all_from q (x ∷ xs) each = and_from (q x) (list_all q xs) (each 0 x refl) (all_from q xs (λ k y at. each (suc k) y at))

-- two tests of which each follows from the other
pub same_test : (a b : Bool) → (a ≡ true → b ≡ true) → (b ≡ true → a ≡ true) → a ≡ b
same_test true b there back = sym (there refl)
same_test false true there back = back refl
same_test false false there back = refl

-- what stands in the front of the numbered records
pub in_front : (journal : List JobRecord) (j k : ℕ) (n : ℕ × JobRecord) → slice_get (take j (numbered journal)) k ≡ Some n
    → (n.0 < j) × (slice_get journal n.0 ≡ Some n.1)
in_front journal j k n at =
    let lt : k < j = take_within (numbered journal) j k n at in
    let there = numbered_get journal 0 k n (sym (get_take (numbered journal) j k lt) ∙ at) in
    let number : n.0 ≡ k = omega (arith, there.0) in (omega (arith, number, lt), subst (λ m. slice_get journal m ≡ Some n.1) (sym number) there.1)
  where
    take_within : {X : Type 0} (xs : List X) (j k : ℕ) (x : X) → slice_get (take j xs) k ≡ Some x → k < j
    take_within [] zero k x at = absurd (cc (at))
    take_within [] (suc j) k x at = absurd (cc (at))
    take_within (y ∷ xs) zero k x at = absurd (cc (at))
    take_within (y ∷ xs) (suc j) zero x at = omega arith
    take_within (y ∷ xs) (suc j) (suc k) x at = omega (arith, take_within xs j k x at)

-- a test that an earlier job of the same entity passes with a later one, and that each job passes that has ended
pub record GoesDown (journal : List JobRecord) (test : JobRecord → Bool) : Type 0 where
  pub down : (i f : ℕ) (x y : JobRecord) → i < f → slice_get journal i ≡ Some x → slice_get journal f ≡ Some y → x.job.entity ≡ y.job.entity
      → test y ≡ true → test x ≡ true
  pub ended : (x : JobRecord) → has_ended x.phase ≡ true → test x ≡ true

-- a number that is not above another is it, or is below
order : (a b : ℕ) → a ≤ b → (a ≡ b) ⊎ (a < b)
order a b le =
    elim (cases_eq a b) [
      | inl same ↦ inl same
      | inr apart ↦ inr (omega (arith, le, apart))
    ]

-- such a test is passed by all dependencies exactly where the latest of each entity pass it
pub latest_stand : (journal : List JobRecord) (j : ℕ) (r : JobRecord) (deps : List (ℕ × ℕ)) (test : JobRecord → Bool) → GoesDown journal test
    → DepsStand journal j r.job deps
    → list_all (λ n. test n.1) (dependencies journal j r.job) ≡ list_all (λ d. is_at journal d.1 test) deps
latest_stand journal j r deps test goes stand =
    same_test
    (list_all (λ n. test n.1) (dependencies journal j r.job))
    (list_all (λ d. is_at journal d.1 test) deps)
    (λ all. all_from (λ d. is_at journal d.1 test) deps (λ k d at.
    let x = All-contains (IsDependency journal j r.job) deps d stand.of_jobs (contains_at deps k d at) in
    let passes : test x.0 ≡ true =
    all_of_filter
    (λ (n : ℕ × JobRecord). test n.1)
    (λ (n : ℕ × JobRecord). comes_after r.job n.0 n.1.job)
    (take j (numbered journal))
    d.1
    (0 + d.1, x.0)
    all
    (get_take (numbered journal) j d.1 x.3 ∙ get_numbered journal 0 d.1 x.0 x.1)
    (let number : 0 + d.1 ≡ d.1 = omega arith in subst (λ m. comes_after r.job m x.0.job ≡ true) (sym number) x.4) in
    at_test journal d.1 x.0 test x.1 ∙ passes))
    (λ all. all_from (λ n. test n.1) (dependencies journal j r.job) (λ k n at.
    let inside = in_filter (λ (n : ℕ × JobRecord). comes_after r.job n.0 n.1.job) (take j (numbered journal)) n (contains_at (dependencies journal j r.job) k n at) in
    let place = place_of (take j (numbered journal)) n inside.0 in
    let front = in_front journal j place.0 n place.1 in
    by_end n front.0 front.1 inside.1 all))
  where
    by_end : (n : ℕ × JobRecord) → n.0 < j → slice_get journal n.0 ≡ Some n.1 → comes_after r.job n.0 n.1.job ≡ true
        → list_all (λ d. is_at journal d.1 test) deps ≡ true → test n.1 ≡ true
    by_end n lt at comes all =
        elim (has_ended n.1.phase) as (λ t. has_ended n.1.phase ≡ t → test n.1 ≡ true) [
          | true ↦ λ is. goes.ended n.1 is
          | false ↦ λ is.
              let cover = stand.covers n.0 n.1 lt at comes is in
              let where_is = place_of deps (n.1.job.entity, cover.0) cover.1 in
              let x = All-contains (IsDependency journal j r.job) deps (n.1.job.entity, cover.0) stand.of_jobs cover.1 in
              let passes : test x.0 ≡ true =
              sym (at_test journal cover.0 x.0 test x.1) ∙ all_at (λ (d : ℕ × ℕ). is_at journal d.1 test) deps where_is.0 (n.1.job.entity, cover.0) all where_is.1 in
              elim (order n.0 cover.0 cover.2) [
                | inl same ↦ let here : x.0 ≡ n.1 = cc (x.1, at, same) in ap test (sym here) ∙ passes
                | inr before ↦ goes.down n.0 cover.0 n.1 x.0 before at x.1 (sym x.2) passes
              ]
        ] refl

-- a fence is met for a ring: it has ended, or is given to the ring
met_by : (ring : ℕ) (x y : JobRecord) → IsTrue (has_ended x.phase) ⊎ (x.ring ≡ y.ring) → (has_ended y.phase ≡ true → has_ended x.phase ≡ true)
    → (is_queued y.phase ≡ false → is_queued x.phase ≡ false) → is_met ring y ≡ true → is_met ring x ≡ true
met_by ring x y home ended begun passes =
    elim (has_ended y.phase) as (λ t. has_ended y.phase ≡ t → (t || (not (is_queued y.phase) && (y.ring == ring))) ≡ true → is_met ring x ≡ true) [
      | true ↦ λ is met. or_left (has_ended x.phase) (not (is_queued x.phase) && (x.ring == ring)) (ended is)
      | false ↦ λ is met.
          let parts = and_parts (not (is_queued y.phase)) (y.ring == ring) met in
          let begun_x : not (is_queued x.phase) ≡ true = ap not (begun (not_not (is_queued y.phase) parts.0)) in
          elim home [
            | inl over ↦ or_left (has_ended x.phase) (not (is_queued x.phase) && (x.ring == ring)) over
            | inr on ↦
                let same : (x.ring == ring) ≡ true = ap (λ n. n == ring) on ∙ parts.1 in
                or_right (has_ended x.phase) (not (is_queued x.phase) && (x.ring == ring)) (and_from (not (is_queued x.phase)) (x.ring == ring) begun_x same)
          ]
    ] refl passes
  where
    not_not : (b : Bool) → not b ≡ true → b ≡ false
    not_not true is = sym is
    not_not false is = refl

-- the two tests that the device asks
pub met_goes_down : (d : DeviceState) (ring : ℕ) → IsSteady d → GoesDown d.journal (is_met ring)
met_goes_down d ring steady = record {
  down = λ i f x y lt at_x at_y same passes.
      let order = steady.lawful.entities i f x y lt at_x at_y in
      met_by ring x y (steady.home i f x y lt at_x at_y same) (order.ended same) (order.begun same) passes;
  ended = λ x is. or_left (has_ended x.phase) (not (is_queued x.phase) && (x.ring == ring)) is;
}

pub ended_goes_down : (d : DeviceState) → IsSteady d → GoesDown d.journal (λ x. has_ended x.phase)
ended_goes_down d steady = record {
  down = λ i f x y lt at_x at_y same passes. (steady.lawful.entities i f x y lt at_x at_y).ended same passes;
  ended = λ x is. is;
}
