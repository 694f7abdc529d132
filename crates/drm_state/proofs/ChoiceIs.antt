-- What is known of the job that a ring takes next.
use Rattle.std.proofs.Common.{◌≡◌, ℕ, zero, suc, ◌+◌, ◌<◌, Bool, true, false, cond, ◌&&◌, ◌==◌, List, [], ◌∷◌, take, Some, None, Option, refl, sym, ap, subst, ◌∙◌, inl, inr, arith, slice_get}
use Rattle.std.specs.Option.{option_map_or}
use Rattle.std.specs.Prelude.{Contains, filter, find}
use Rattle.std.specs.List.{list_all, enumerate_from, flat_map}
use Rattle.std.proofs.lemmas.Bool.{and_parts, eqb-true, cases_Bool, both_ways, and_from, eq-eqb}
use Rattle.std.proofs.lemmas.List.Elements.{All-contains, All-filter, All-contains_itself, filter_passes, Contains-append_cases}
use Rattle.drm_lists.proofs.Searches.{find_first}
use Rattle.drm_lists.proofs.Places.{contains_at, place_of, from_map, get_numbered, get_take}
use Rattle.drm_types.specs.declared.spec.Priority.{Priority}
use Rattle.drm_types.specs.declared.spec.Priority.TheVariants.{Kernel, High, Normal, Low}
use Rattle.drm_state.specs.declared.journal.JobRecord.{JobRecord}
use Rattle.drm_state.specs.State.{DeviceState}
use Rattle.drm_state.specs.Journal.{numbered}
use Rattle.drm_fence.specs.Phases.{is_queued}
use Rattle.drm_state.specs.Order.{comes_after, is_met, is_ready}
use Rattle.drm_state.specs.Choice.{is_head_of, may_begin, ready_heads, choice}
use Rattle.drm_types.specs.Firsts.{first}
use Rattle.drm_state.proofs.RingChange.{first_is}

-- a numbered record stands at its number
pub numbered_get : (xs : List JobRecord) (n k : ℕ) (e : ℕ × JobRecord) → slice_get (enumerate_from n xs) k ≡ Some e
    → (e.0 ≡ n + k) × (slice_get xs k ≡ Some e.1)
numbered_get [] n k e is = absurd (cc (is))
numbered_get (x ∷ xs) n zero e is =
    let same : ◌≡◌ {A = ℕ × JobRecord} (n, x) e = cc (is) in (omega (arith, ap (λ (p : ℕ × JobRecord). p.0) same), ap (λ (p : ℕ × JobRecord). Some p.1) same)
numbered_get (x ∷ xs) n (suc k) e is =
    let r = numbered_get xs (n + 1) k e is in (omega (arith, r.0), r.1)

-- the first that a filter keeps is the first that is found
pub first-filter : {X : Type 0} (p : X → Bool) (xs : List X) → first (filter p xs) ≡ find p xs
first-filter p [] = refl
first-filter {X} p (x ∷ xs) =
    elim (p x) as (λ t. first (cond t (x ∷ filter p xs) (filter p xs)) ≡ cond t (Some x) (find p xs)) [
      | true ↦ refl
      | false ↦ first-filter p xs
    ]

-- of what a filter keeps each element passes a test: so does each element that it would keep
pub all_of_filter : {X : Type 0} (q p : X → Bool) (xs : List X) (k : ℕ) (x : X) → list_all q (filter p xs) ≡ true → slice_get xs k ≡ Some x → p x ≡ true
    → q x ≡ true
all_of_filter q p [] k x all is keep = absurd (cc (is))
all_of_filter {X} q p (y ∷ ys) zero x all is keep =
    let same : y ≡ x = cc (is) in
    let kept : list_all q (filter p (y ∷ ys)) ≡ (q y && list_all q (filter p ys)) =
    ap (λ t. list_all q (cond t (y ∷ filter p ys) (filter p ys))) (ap p same ∙ keep) in
    ap q (sym same) ∙ (and_parts (q y) (list_all q (filter p ys)) (sym kept ∙ all)).0
all_of_filter {X} q p (y ∷ ys) (suc k) x all is keep =
    elim (p y) as (λ t. list_all q (cond t (y ∷ filter p ys) (filter p ys)) ≡ true → q x ≡ true) [
      | true ↦ λ all. all_of_filter q p ys k x (and_parts (q y) (list_all q (filter p ys)) all).1 is keep
      | false ↦ λ all. all_of_filter q p ys k x all is keep
    ] all

-- what is in a filtered list
pub in_filter : {X : Type 0} (p : X → Bool) (xs : List X) (x : X) → Contains (filter p xs) x → Contains xs x × (p x ≡ true)
in_filter p xs x c = (
  All-contains (Contains xs) (filter p xs) x (All-filter p (Contains xs) xs (All-contains_itself xs)) c,
  All-contains (λ y. p y ≡ true) (filter p xs) x (filter_passes p xs) c,
)

-- the job that a ring takes next: queued, the first of its entity, and all that it comes after is met
pub record IsChosen (d : DeviceState) (ring f : ℕ) (r : JobRecord) : Type 0 where
  pub at : slice_get d.journal f ≡ Some r
  pub on_ring : r.ring ≡ ring
  pub queued : is_queued r.phase ≡ true
  pub is_head : is_head_of r.job.entity d.journal f ≡ true
  pub is_first : (i : ℕ) (x : JobRecord) → i < f → slice_get d.journal i ≡ Some x → x.job.entity ≡ r.job.entity → is_queued x.phase ≡ false
  pub met : (i : ℕ) (x : JobRecord) → i < f → slice_get d.journal i ≡ Some x → comes_after r.job i x.job ≡ true → is_met r.ring x ≡ true

-- the test of a queue
abbrev pub is_queued_of : ℕ → ℕ × JobRecord → Bool
is_queued_of entity n = (n.1.job.entity == entity) && is_queued n.1.phase

pub head_of_queue : (journal : List JobRecord) (entity f : ℕ) (r : JobRecord) → slice_get journal f ≡ Some r → r.job.entity ≡ entity
    → is_head_of entity journal f ≡ true
    → (is_queued r.phase ≡ true)
    × ((i : ℕ) (x : JobRecord) → i < f → slice_get journal i ≡ Some x → x.job.entity ≡ r.job.entity → is_queued x.phase ≡ false)
head_of_queue journal entity f r at of_entity is_head =
    let found : option_map_or (λ (n : ℕ × JobRecord). n.0 == f) (find (is_queued_of entity) (numbered journal)) false ≡ true =
    ap (λ o. option_map_or (λ (n : ℕ × JobRecord). n.0 == f) o false) (sym (first-filter (is_queued_of entity) (numbered journal))) ∙ is_head in
    by_find (find (is_queued_of entity) (numbered journal)) refl found
  where
    by_find : (o : Option (ℕ × JobRecord)) → find (is_queued_of entity) (numbered journal) ≡ o → option_map_or (λ (n : ℕ × JobRecord). n.0 == f) o false ≡ true
        → (is_queued r.phase ≡ true)
        × ((i : ℕ) (x : JobRecord) → i < f → slice_get journal i ≡ Some x → x.job.entity ≡ r.job.entity → is_queued x.phase ≡ false)
    by_find None is none = let never : false ≡ true = none in absurd (cc (never))
    by_find (Some n) is some =
        let n_is : n.0 ≡ f = eqb-true n.0 f some in
        let q = find_first (is_queued_of entity) (numbered journal) n is in
        let m = numbered_get journal 0 q.0 n q.1 in
        let place : q.0 ≡ f = omega (arith, m.0, n_is) in
        let same : n.1 ≡ r = cc (m.1, at, place) in
        let passes = and_parts (n.1.job.entity == entity) (is_queued n.1.phase) q.2 in (
          ap (λ (z : JobRecord). is_queued z.phase) (sym same) ∙ passes.1,
          λ i x lt at_i of_same.
              let fails : is_queued_of entity (0 + i, x) ≡ false = q.3 i (0 + i, x) (omega (arith, lt, place)) (get_numbered journal 0 i x at_i) in
              let here : (x.job.entity == entity) ≡ true = eq-eqb x.job.entity entity (of_same ∙ of_entity) in
              elim (cases_Bool (is_queued x.phase)) [
                | inr no_more ↦ no_more
                | inl waits ↦ absurd (both_ways (is_queued_of entity (0 + i, x)) fails (and_from (x.job.entity == entity) (is_queued x.phase) here waits))
              ],
        )

-- the test of a ready head
abbrev pub is_ready_head : DeviceState → ℕ → Priority → ℕ × JobRecord → Bool
is_ready_head d ring priority n =
    (n.1.ring == ring) && may_begin d priority n.1.job.entity && is_head_of n.1.job.entity d.journal n.0 && is_ready d.journal n.0 n.1

pub chosen_of : (d : DeviceState) (ring f : ℕ) (priority : Priority) → Contains (ready_heads d ring priority) f → (r : JobRecord) × IsChosen d ring f r
chosen_of d ring f priority c =
    let place = place_of (ready_heads d ring priority) f c in
    let n = from_map (λ (n : ℕ × JobRecord). n.0) (filter (is_ready_head d ring priority) (numbered d.journal)) place.0 f place.1 in
    let inside = in_filter (is_ready_head d ring priority) (numbered d.journal) n.0 (contains_at (filter (is_ready_head d ring priority) (numbered d.journal)) place.0 n.0 n.1) in
    let at_place = place_of (numbered d.journal) n.0 inside.0 in
    let m = numbered_get d.journal 0 at_place.0 n.0 at_place.1 in
    let number : at_place.0 ≡ f = omega (arith, m.0, n.2) in
    let at : slice_get d.journal f ≡ Some n.0.1 = subst (λ k. slice_get d.journal k ≡ Some n.0.1) number m.1 in
    let three = and_parts ((n.0.1.ring == ring) && may_begin d priority n.0.1.job.entity && is_head_of n.0.1.job.entity d.journal n.0.0) (is_ready d.journal n.0.0 n.0.1) inside.1 in
    let two = and_parts ((n.0.1.ring == ring) && may_begin d priority n.0.1.job.entity) (is_head_of n.0.1.job.entity d.journal n.0.0) three.0 in
    let one = and_parts (n.0.1.ring == ring) (may_begin d priority n.0.1.job.entity) two.0 in
    let head : is_head_of n.0.1.job.entity d.journal f ≡ true = subst (λ k. is_head_of n.0.1.job.entity d.journal k ≡ true) (sym n.2) two.1 in
    let ready : is_ready d.journal f n.0.1 ≡ true = subst (λ k. is_ready d.journal k n.0.1 ≡ true) (sym n.2) three.1 in
    let queue = head_of_queue d.journal n.0.1.job.entity f n.0.1 at refl head in (
      n.0.1,
      record {
        at = at;
        on_ring = eqb-true n.0.1.ring ring one.0;
        queued = queue.0;
        is_head = head;
        is_first = queue.1;
        met = λ i x lt at_i comes.
            all_of_filter
            (λ m. is_met n.0.1.ring m.1)
            (λ m. comes_after n.0.1.job m.0 m.1.job)
            (take f (numbered d.journal))
            i
            (0 + i, x)
            ready
            (get_take (numbered d.journal) f i lt ∙ get_numbered d.journal 0 i x at_i)
            (let zero_add : 0 + i ≡ i = omega arith in subst (λ k. comes_after n.0.1.job k x.job ≡ true) (sym zero_add) comes);
      },
    )

pub choice_is : (d : DeviceState) (ring f : ℕ) → choice d ring ≡ Some f → (r : JobRecord) × IsChosen d ring f r
choice_is d ring f some =
    let all = flat_map (ready_heads d ring) (Kernel ∷ High ∷ Normal ∷ Low ∷ []) in
    let split = first_is all f some in
    let inside : Contains all f = contains_at all 0 f (ap (λ xs. slice_get xs 0) split.1) in
    elim (Contains-append_cases (ready_heads d ring Kernel) (flat_map (ready_heads d ring) (High ∷ Normal ∷ Low ∷ [])) f inside) [
      | inl k ↦ chosen_of d ring f Kernel k
      | inr rest ↦ elim (Contains-append_cases (ready_heads d ring High) (flat_map (ready_heads d ring) (Normal ∷ Low ∷ [])) f rest) [
        | inl h ↦ chosen_of d ring f High h
        | inr rest ↦ elim (Contains-append_cases (ready_heads d ring Normal) (flat_map (ready_heads d ring) (Low ∷ [])) f rest) [
          | inl n ↦ chosen_of d ring f Normal n
          | inr rest ↦ elim (Contains-append_cases (ready_heads d ring Low) [] f rest) [
            | inl l ↦ chosen_of d ring f Low l
            | inr none ↦ absurd (omega (arith, none.1))
          ]
        ]
      ]
    ]
