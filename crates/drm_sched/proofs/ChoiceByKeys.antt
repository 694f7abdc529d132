-- The first ready head by priority and number is the ring's choice.
use Rattle.std.proofs.Common.{◌≡◌, ℕ, ◌+◌, ◌<◌, Bool, true, false, ◌&&◌, ◌||◌, ◌==◌, List, [], ◌∷◌, ◌++◌, Some, None, Option, refl, sym, ap, subst, ◌∙◌, arith, slice_get}
use Rattle.std.specs.Prelude.{IsTrue, filter, nat_lt, option_map}
use Rattle.std.proofs.lemmas.Bool.{and_parts, and_from, or_right, both_ways, eq-eqb, lt-ltb}
use Rattle.drm_lists.proofs.Places.{get_numbered}
use Rattle.drm_types.specs.Firsts.{first}
use Rattle.drm_types.specs.Priorities.{rank_of}
use Rattle.drm_types.specs.declared.spec.Priority.{Priority}
use Rattle.drm_types.specs.declared.spec.Priority.TheVariants.{Kernel, High, Normal, Low}
use Rattle.drm_runq.specs.declared.key.Key.{Key}
use Rattle.drm_sched.specs.Candidates.{IsHeadCandidate, goes_first}
use Rattle.drm_state.specs.declared.journal.JobRecord.{JobRecord}
use Rattle.drm_state.specs.State.{DeviceState}
use Rattle.drm_state.specs.Journal.{numbered}
use Rattle.drm_state.specs.Order.{is_ready}
use Rattle.drm_state.specs.Choice.{is_head_of, may_begin, ready_heads, choice}
use Rattle.drm_state.proofs.Found.{find_at, find_none, first_map}
use Rattle.drm_state.proofs.ChoiceIs.{is_ready_head, numbered_get, first-filter}

-- the entity's head was answered true, and each that comes before it false
pub record IsFirstReady (Answers : ℕ → Bool → Type 0) (device : DeviceState) (ring entity : ℕ) : Type 0 where
  pub key : Key
  pub has_key : IsHeadCandidate device ring entity key
  pub ready : Answers entity true
  pub others : (other : ℕ) (k : Key) → IsHeadCandidate device ring other k → IsTrue (goes_first k key) → Answers other false

-- each head was answered false
abbrev pub NoneReady : (ℕ → Bool → Type 0) → DeviceState → ℕ → Type 0
NoneReady Answers device ring = (other : ℕ) (k : Key) → IsHeadCandidate device ring other k → Answers other false

first_append : {X : Type 0} (xs ys : List X) (o : Option X) → first xs ≡ None → first ys ≡ o → first (xs ++ ys) ≡ o
first_append [] ys o none is = is
first_append (x ∷ xs) ys o none is = absurd (cc (none))

first_here : {X : Type 0} (xs ys : List X) (x : X) → first xs ≡ Some x → first (xs ++ ys) ≡ Some x
first_here [] ys x is = absurd (cc (is))
first_here (y ∷ xs) ys x is = is

-- the candidate of a ready head
pub key_of_head : (d : DeviceState) (ring i : ℕ) (priority : Priority) (y : ℕ × JobRecord) → slice_get (numbered d.journal) i ≡ Some y
    → is_ready_head d ring priority y ≡ true
    → (y.0 ≡ i) × (slice_get d.journal i ≡ Some y.1) × IsHeadCandidate d ring y.1.job.entity (record { priority = priority; age = i })
    × (is_ready d.journal i y.1 ≡ true)
key_of_head d ring i priority y at is =
    let there = numbered_get d.journal 0 i y at in
    let number : y.0 ≡ i = omega (arith, there.0) in
    let three = and_parts ((y.1.ring == ring) && may_begin d priority y.1.job.entity && is_head_of y.1.job.entity d.journal y.0) (is_ready d.journal y.0 y.1) is in
    let two = and_parts ((y.1.ring == ring) && may_begin d priority y.1.job.entity) (is_head_of y.1.job.entity d.journal y.0) three.0 in
    let one = and_parts (y.1.ring == ring) (may_begin d priority y.1.job.entity) two.0 in (
      number,
      there.1,
      record {
        head = y.1;
        at = there.1;
        of_entity = refl;
        on_ring = one.0;
        may = one.1;
        is_head = subst (λ k. is_head_of y.1.job.entity d.journal k ≡ true) number two.1;
      },
      subst (λ k. is_ready d.journal k y.1 ≡ true) number three.1,
    )

-- an answer says whether the head of the entity is ready
abbrev pub AnswersReady : DeviceState → ℕ → (ℕ → Bool → Type 0) → Type 0
AnswersReady d ring Answers =
    (entity : ℕ) (key : Key) (r : JobRecord) (b : Bool) → IsHeadCandidate d ring entity key → slice_get d.journal key.age ≡ Some r → Answers entity b
    → is_ready d.journal key.age r ≡ b

-- of a priority none is ready, where each such head was answered false
pub none_of : (d : DeviceState) (ring : ℕ) (Answers : ℕ → Bool → Type 0) (priority : Priority) → AnswersReady d ring Answers
    → ((entity : ℕ) (k : Key) → IsHeadCandidate d ring entity k → k.priority ≡ priority → Answers entity false)
    → first (ready_heads d ring priority) ≡ None
none_of d ring Answers priority answers all_no =
    first_map (λ (n : ℕ × JobRecord). n.0) (filter (is_ready_head d ring priority) (numbered d.journal))
    ∙ ap (option_map (λ (n : ℕ × JobRecord). n.0)) (first-filter (is_ready_head d ring priority) (numbered d.journal)
    ∙ find_none (is_ready_head d ring priority) (numbered d.journal) (λ i y at. fails i y at))
  where
    fails : (i : ℕ) (y : ℕ × JobRecord) → slice_get (numbered d.journal) i ≡ Some y → is_ready_head d ring priority y ≡ false
    fails i y at =
        elim (is_ready_head d ring priority y) as (λ t. is_ready_head d ring priority y ≡ t → t ≡ false) [
          | true ↦ λ is.
              let h = key_of_head d ring i priority y at is in
              let key : Key = record { priority = priority; age = i } in
              let has : IsHeadCandidate d ring y.1.job.entity key = h.2 in
              absurd (both_ways (is_ready d.journal i y.1) (answers y.1.job.entity key y.1 false has h.1 (all_no y.1.job.entity key has refl)) h.3)
          | false ↦ λ is. refl
        ] refl

-- of the priority of the first, it is the first
pub some_of : (d : DeviceState) (ring : ℕ) (Answers : ℕ → Bool → Type 0) (entity : ℕ) (key : Key) → AnswersReady d ring Answers → IsHeadCandidate d ring entity key → Answers entity true
    → ((other : ℕ) (k : Key) → IsHeadCandidate d ring other k → k.priority ≡ key.priority → k.age < key.age → Answers other false)
    → first (ready_heads d ring key.priority) ≡ Some key.age
some_of d ring Answers entity key answers has ready others =
    let h = has in
    first_map (λ (n : ℕ × JobRecord). n.0) (filter (is_ready_head d ring key.priority) (numbered d.journal))
    ∙ ap (option_map (λ (n : ℕ × JobRecord). n.0)) (first-filter (is_ready_head d ring key.priority) (numbered d.journal)
    ∙ find_at (is_ready_head d ring key.priority) (numbered d.journal) key.age (0 + key.age, h.head) (get_numbered d.journal 0 key.age h.head h.at) (passes h) before)
    ∙ (let number : 0 + key.age ≡ key.age = omega arith in ap (λ m. Some m) number)
  where
    passes : (h : IsHeadCandidate d ring entity key) → is_ready_head d ring key.priority (0 + key.age, h.head) ≡ true
    passes h =
        let number : key.age ≡ 0 + key.age = omega arith in
        let may : may_begin d key.priority h.head.job.entity ≡ true = subst (λ e. may_begin d key.priority e ≡ true) (sym h.of_entity) h.may in
        let is_head : is_head_of h.head.job.entity d.journal (0 + key.age) ≡ true =
        subst (λ m. is_head_of h.head.job.entity d.journal m ≡ true) number (subst (λ e. is_head_of e d.journal key.age ≡ true) (sym h.of_entity) h.is_head) in
        let is_now : is_ready d.journal (0 + key.age) h.head ≡ true = subst (λ m. is_ready d.journal m h.head ≡ true) number (answers entity key h.head true has h.at ready) in
        and_from
        ((h.head.ring == ring) && may_begin d key.priority h.head.job.entity && is_head_of h.head.job.entity d.journal (0 + key.age))
        (is_ready d.journal (0 + key.age) h.head)
        (and_from ((h.head.ring == ring) && may_begin d key.priority h.head.job.entity) (is_head_of h.head.job.entity d.journal (0 + key.age))
        (and_from (h.head.ring == ring) (may_begin d key.priority h.head.job.entity) h.on_ring may) is_head)
        is_now

    before : (i : ℕ) (y : ℕ × JobRecord) → i < key.age → slice_get (numbered d.journal) i ≡ Some y → is_ready_head d ring key.priority y ≡ false
    before i y lt at =
        elim (is_ready_head d ring key.priority y) as (λ t. is_ready_head d ring key.priority y ≡ t → t ≡ false) [
          | true ↦ λ is.
              let h = key_of_head d ring i key.priority y at is in
              let k : Key = record { priority = key.priority; age = i } in
              let there : IsHeadCandidate d ring y.1.job.entity k = h.2 in
              absurd (both_ways (is_ready d.journal i y.1) (answers y.1.job.entity k y.1 false there h.1 (others y.1.job.entity k there refl lt)) h.3)
          | false ↦ λ is. refl
        ] refl

-- a candidate of a higher priority goes first, and one of the same with a lower number
higher_before : (k key : Key) (p q : Priority) → k.priority ≡ p → key.priority ≡ q → nat_lt (rank_of p) (rank_of q) ≡ true → goes_first k key ≡ true
higher_before k key p q k_is key_is lt =
    let rank : nat_lt (rank_of k.priority) (rank_of key.priority) ≡ true =
    ap (λ x. nat_lt (rank_of x) (rank_of key.priority)) k_is ∙ (ap (λ x. nat_lt (rank_of p) (rank_of x)) key_is ∙ lt) in
    ap (λ t. t || ((rank_of k.priority == rank_of key.priority) && nat_lt k.age key.age)) rank

lower_before : (k key : Key) → k.priority ≡ key.priority → k.age < key.age → goes_first k key ≡ true
lower_before k key same lt =
    let rank : (rank_of k.priority == rank_of key.priority) ≡ true = eq-eqb (rank_of k.priority) (rank_of key.priority) (ap rank_of same) in
    or_right
    (nat_lt (rank_of k.priority) (rank_of key.priority))
    ((rank_of k.priority == rank_of key.priority) && nat_lt k.age key.age)
    (and_from (rank_of k.priority == rank_of key.priority) (nat_lt k.age key.age) rank (lt-ltb k.age key.age lt))

-- the first that is ready is the ring's choice
pub choice_is_first : (d : DeviceState) (ring : ℕ) (Answers : ℕ → Bool → Type 0) (entity : ℕ) → AnswersReady d ring Answers → (is : IsFirstReady Answers d ring entity) → choice d ring ≡ Some is.key.age
choice_is_first d ring Answers entity answers is = by_priority is.key.priority refl
  where
    here : (p : Priority) → is.key.priority ≡ p → first (ready_heads d ring p) ≡ Some is.key.age
    here p p_is =
        subst (λ q. first (ready_heads d ring q) ≡ Some is.key.age) p_is
        (some_of d ring Answers entity is.key answers is.has_key is.ready (λ other k has same lt. is.others other k has (lower_before k is.key same lt)))

    above : (p q : Priority) → is.key.priority ≡ q → nat_lt (rank_of p) (rank_of q) ≡ true → first (ready_heads d ring p) ≡ None
    above p q q_is lt =
        none_of d ring Answers p answers (λ other k has same. is.others other k has (higher_before k is.key p q same q_is lt))

    by_priority : (p : Priority) → is.key.priority ≡ p → choice d ring ≡ Some is.key.age
    by_priority Kernel p_is = first_here (ready_heads d ring Kernel) _ is.key.age (here Kernel p_is)
    by_priority High p_is =
        first_append (ready_heads d ring Kernel) _ _ (above Kernel High p_is refl) (first_here (ready_heads d ring High) _ is.key.age (here High p_is))
    by_priority Normal p_is =
        first_append (ready_heads d ring Kernel) _ _ (above Kernel Normal p_is refl)
        (first_append (ready_heads d ring High) _ _ (above High Normal p_is refl) (first_here (ready_heads d ring Normal) _ is.key.age (here Normal p_is)))
    by_priority Low p_is =
        first_append (ready_heads d ring Kernel) _ _ (above Kernel Low p_is refl)
        (first_append (ready_heads d ring High) _ _ (above High Low p_is refl)
        (first_append (ready_heads d ring Normal) _ _ (above Normal Low p_is refl) (first_here (ready_heads d ring Low) [] is.key.age (here Low p_is))))

-- where none is ready there is no choice
pub choice_is_none : (d : DeviceState) (ring : ℕ) (Answers : ℕ → Bool → Type 0) → AnswersReady d ring Answers → NoneReady Answers d ring → choice d ring ≡ None
choice_is_none d ring Answers answers none =
    first_append (ready_heads d ring Kernel) _ None (no Kernel)
    (first_append (ready_heads d ring High) _ None (no High)
    (first_append (ready_heads d ring Normal) _ None (no Normal) (first_append (ready_heads d ring Low) [] None (no Low) refl)))
  where
    no : (p : Priority) → first (ready_heads d ring p) ≡ None
    no p = none_of d ring Answers p answers (λ other k has same. none other k has)
