-- The job that a ring takes next is the least that may begin.
use Rattle.std.proofs.Common.{◌≡◌, ℕ, zero, suc, ◌+◌, ◌<◌, ◌≤◌, Bool, true, false, not, cond, ◌&&◌, ◌==◌, List, [], ◌∷◌, ◌++◌, Some, None, Option, refl, sym, ap, subst, ◌∙◌, inl, inr, ◌⊎◌, arith, slice_get}
use Rattle.std.specs.Prelude.{filter, find, option_map}
use Rattle.std.specs.Option.{option_map_or}
use Rattle.std.proofs.lemmas.Bool.{and_parts, and_from, eqb-true, eq-eqb, both_ways, cases_Bool, cases_eq, cases_lt}
use Rattle.std.proofs.lemmas.Option.{slice_get_within}
use Rattle.drm_lists.proofs.Searches.{find_first}
use Rattle.drm_lists.proofs.Places.{stands_within, get_numbered}
use Rattle.drm_types.specs.Firsts.{first}
use Rattle.drm_types.specs.Priorities.{rank_of}
use Rattle.drm_types.specs.declared.spec.EntitySpec.{EntitySpec}
use Rattle.drm_types.specs.declared.spec.Priority.{Priority}
use Rattle.drm_types.specs.declared.spec.Priority.TheVariants.{Kernel, High, Normal, Low}
use Rattle.drm_fence.specs.Phases.{is_queued}
use Rattle.drm_state.specs.declared.journal.JobRecord.{JobRecord}
use Rattle.drm_state.specs.State.{EntityState, DeviceState}
use Rattle.drm_state.specs.Journal.{numbered}
use Rattle.drm_state.specs.Order.{is_ready}
use Rattle.drm_state.specs.Choice.{is_head_of, may_begin, ready_heads, choice}
use Rattle.drm_state.specs.Chosen.{IsFirstQueued, MayBegin, rank_at, GoesBefore, IsLeast, NoneMayBegin, ChoiceIsLeast}
use Rattle.drm_state.specs.Steady.{IsSteady}
use Rattle.drm_state.proofs.ChoiceIs.{is_ready_head, is_queued_of, numbered_get, first-filter, head_of_queue}
use Rattle.drm_state.proofs.Found.{find_at, first_map}

-- ---- the first of a list that is found, and that none is found

find_none_fails : {X : Type 0} (p : X → Bool) (xs : List X) (k : ℕ) (x : X) → find p xs ≡ None → slice_get xs k ≡ Some x → p x ≡ true → ⊥
find_none_fails p [] k x none at is = cc (at)
find_none_fails {X} p (y ∷ ys) zero x none at is =
    let same : y ≡ x = cc (at) in
    let never : Some y ≡ None = sym (ap (λ t. cond t (Some y) (find p ys)) (ap p same ∙ is)) ∙ none in cc (never)
find_none_fails {X} p (y ∷ ys) (suc k) x none at is =
    elim (p y) as (λ t. cond t (Some y) (find p ys) ≡ None → ⊥) [
      | true ↦ λ none. cc (none)
      | false ↦ λ none. find_none_fails p ys k x none at is
    ] none

-- the first of two lists in a row
first_cases : (xs ys : List ℕ) (f : ℕ) → first (xs ++ ys) ≡ Some f → (first xs ≡ Some f) ⊎ ((first xs ≡ None) × (first ys ≡ Some f))
first_cases [] ys f is = inr (refl, is)
first_cases (x ∷ xs) ys f is = inl is

first_none : (xs ys : List ℕ) → first (xs ++ ys) ≡ None → (first xs ≡ None) × (first ys ≡ None)
first_none [] ys is = (refl, is)
first_none (x ∷ xs) ys is = absurd (cc (is))

-- ---- the ready heads of one priority

heads_are : (d : DeviceState) (ring : ℕ) (p : Priority)
    → first (ready_heads d ring p) ≡ option_map (λ (n : ℕ × JobRecord). n.0) (find (is_ready_head d ring p) (numbered d.journal))
heads_are d ring p =
    first_map (λ (n : ℕ × JobRecord). n.0) (filter (is_ready_head d ring p) (numbered d.journal))
    ∙ ap (option_map (λ (n : ℕ × JobRecord). n.0)) (first-filter (is_ready_head d ring p) (numbered d.journal))

-- a job of this number is a ready head of the priority
abbrev IsHead : DeviceState → ℕ → Priority → ℕ → JobRecord → Type 0
IsHead d ring p f r = (slice_get d.journal f ≡ Some r) × (is_ready_head d ring p (f, r) ≡ true)

-- the first is one, and none is less
record IsFirstHead (d : DeviceState) (ring : ℕ) (p : Priority) (f : ℕ) : Type 0 where
  head : JobRecord
  is : IsHead d ring p f head
  least : (g : ℕ) (x : JobRecord) → IsHead d ring p g x → f ≤ g

first_head : (d : DeviceState) (ring : ℕ) (p : Priority) (f : ℕ) → first (ready_heads d ring p) ≡ Some f → IsFirstHead d ring p f
first_head d ring p f is = by_find (find (is_ready_head d ring p) (numbered d.journal)) refl (sym (heads_are d ring p) ∙ is)
  where
    from_zero : (g : ℕ) (x : JobRecord) → is_ready_head d ring p (g, x) ≡ true → is_ready_head d ring p (0 + g, x) ≡ true
    from_zero g x is = let same : g ≡ 0 + g = omega arith in subst (λ k. is_ready_head d ring p (k, x) ≡ true) same is

    by_find : (o : Option (ℕ × JobRecord)) → find (is_ready_head d ring p) (numbered d.journal) ≡ o → option_map (λ (n : ℕ × JobRecord). n.0) o ≡ Some f → IsFirstHead d ring p f
    by_find None found none = absurd (cc (none))
    by_find (Some n) found some =
        let n_is : n.0 ≡ f = cc (some) in
        let q = find_first (is_ready_head d ring p) (numbered d.journal) n found in
        let m = numbered_get d.journal 0 q.0 n q.1 in
        let place : q.0 ≡ f = omega (arith, m.0, n_is) in
        record {
          head = n.1;
          is = (
            subst (λ k. slice_get d.journal k ≡ Some n.1) place m.1,
            subst (λ k. is_ready_head d ring p (k, n.1) ≡ true) n_is q.2,
          );
          least = λ g x other. elim (cases_lt g f) [
            | inl less ↦ absurd (both_ways (is_ready_head d ring p (0 + g, x)) (q.3 g (0 + g, x) (omega (arith, less, place)) (get_numbered d.journal 0 g x other.0)) (from_zero g x other.1))
            | inr more ↦ more
          ];
        }

-- where there is no first there is none
no_head : (d : DeviceState) (ring : ℕ) (p : Priority) (g : ℕ) (x : JobRecord) → first (ready_heads d ring p) ≡ None → IsHead d ring p g x → ⊥
no_head d ring p g x none h = by_find (find (is_ready_head d ring p) (numbered d.journal)) refl (sym (heads_are d ring p) ∙ none)
  where
    by_find : (o : Option (ℕ × JobRecord)) → find (is_ready_head d ring p) (numbered d.journal) ≡ o → option_map (λ (n : ℕ × JobRecord). n.0) o ≡ None → ⊥
    by_find (Some n) found some = cc (some)
    by_find None found is =
        let same : g ≡ 0 + g = omega arith in
        find_none_fails (is_ready_head d ring p) (numbered d.journal) g (0 + g, x) found (get_numbered d.journal 0 g x h.0)
        (subst (λ k. is_ready_head d ring p (k, x) ≡ true) same h.1)

-- priorities of one rank have the same heads
same_rank : (d : DeviceState) (ring : ℕ) (p q : Priority) (g : ℕ) (x : JobRecord) → rank_of p ≡ rank_of q → IsHead d ring q g x → IsHead d ring p g x
same_rank d ring p q g x same h = (
  h.0,
  subst (λ k. ((x.ring == ring)
      && (option_map_or (λ (e : EntitySpec). rank_of e.priority == k) (slice_get d.spec.entities x.job.entity) false
      && option_map_or (λ (e : EntityState). not e.is_stopped) (slice_get d.entities x.job.entity) false)
      && is_head_of x.job.entity d.journal g && is_ready d.journal g x) ≡ true) (sym same) h.1,
)

-- ---- the choice among all priorities

-- what holds of each priority
four : (P : Priority → Type 0) → P Kernel → P High → P Normal → P Low → (p : Priority) → P p
four P k h n l Kernel = k
four P k h n l High = h
four P k h n l Normal = n
four P k h n l Low = l

-- the first of its priority, where no higher one has any
record IsFirstOfAll (d : DeviceState) (ring f : ℕ) : Type 0 where
  priority : Priority
  here : IsFirstHead d ring priority f
  above : (q : Priority) → rank_of q < rank_of priority → first (ready_heads d ring q) ≡ None

first_of_all : (d : DeviceState) (ring f : ℕ) → choice d ring ≡ Some f → IsFirstOfAll d ring f
first_of_all d ring f is =
    elim (first_cases (ready_heads d ring Kernel) _ f is) [
      | inl k ↦ record {
        priority = Kernel;
        here = first_head d ring Kernel f k;
        above = four (λ q. rank_of q < 0 → first (ready_heads d ring q) ≡ None)
            (λ lt. absurd (omega (arith, lt))) (λ lt. absurd (omega (arith, lt))) (λ lt. absurd (omega (arith, lt))) (λ lt. absurd (omega (arith, lt)));
      }
      | inr k ↦ elim (first_cases (ready_heads d ring High) _ f k.1) [
        | inl h ↦ record {
          priority = High;
          here = first_head d ring High f h;
          above = four (λ q. rank_of q < 1 → first (ready_heads d ring q) ≡ None)
              (λ lt. k.0) (λ lt. absurd (omega (arith, lt))) (λ lt. absurd (omega (arith, lt))) (λ lt. absurd (omega (arith, lt)));
        }
        | inr h ↦ elim (first_cases (ready_heads d ring Normal) _ f h.1) [
          | inl n ↦ record {
            priority = Normal;
            here = first_head d ring Normal f n;
            above = four (λ q. rank_of q < 2 → first (ready_heads d ring q) ≡ None)
                (λ lt. k.0) (λ lt. h.0) (λ lt. absurd (omega (arith, lt))) (λ lt. absurd (omega (arith, lt)));
          }
          | inr n ↦ elim (first_cases (ready_heads d ring Low) [] f n.1) [
            | inl l ↦ record {
              priority = Low;
              here = first_head d ring Low f l;
              above = four (λ q. rank_of q < 3 → first (ready_heads d ring q) ≡ None)
                  (λ lt. k.0) (λ lt. h.0) (λ lt. n.0) (λ lt. absurd (omega (arith, lt)));
            }
            | inr never ↦ let empty : None ≡ Some f = never.1 in absurd (cc (empty))
          ]
        ]
      ]
    ]

-- where there is no choice no priority has a head
none_at_all : (d : DeviceState) (ring : ℕ) → choice d ring ≡ None → (p : Priority) → first (ready_heads d ring p) ≡ None
none_at_all d ring is =
    let k = first_none (ready_heads d ring Kernel) _ is in
    let h = first_none (ready_heads d ring High) _ k.1 in
    let n = first_none (ready_heads d ring Normal) _ h.1 in
    let l = first_none (ready_heads d ring Low) [] n.1 in
    four (λ q. first (ready_heads d ring q) ≡ None) k.0 h.0 n.0 l.0

-- ---- a ready head is a job that may begin

-- the first queued job is the head of its queue
head_is_first : (journal : List JobRecord) (entity f : ℕ) (head : JobRecord) → IsFirstQueued journal entity f head → is_head_of entity journal f ≡ true
head_is_first journal entity f head is =
    ap (λ o. option_map_or (λ (n : ℕ × JobRecord). n.0 == f) o false)
    (first-filter (is_queued_of entity) (numbered journal) ∙ find_at (is_queued_of entity) (numbered journal) f (0 + f, head) (get_numbered journal 0 f head is.at) passes before)
    ∙ eq-eqb (0 + f) f (omega arith)
  where
    passes : is_queued_of entity (0 + f, head) ≡ true
    passes = and_from (head.job.entity == entity) (is_queued head.phase) (eq-eqb head.job.entity entity is.of_entity) is.queued

    before : (i : ℕ) (n : ℕ × JobRecord) → i < f → slice_get (numbered journal) i ≡ Some n → is_queued_of entity n ≡ false
    before i n lt at =
        let there = numbered_get journal 0 i n at in
        elim (cases_Bool (is_queued_of entity n)) [
          | inr fails ↦ fails
          | inl waits ↦
              let parts = and_parts (n.1.job.entity == entity) (is_queued n.1.phase) waits in
              absurd (both_ways (is_queued n.1.phase) (is.first i n.1 lt there.1 (eqb-true n.1.job.entity entity parts.0)) parts.1)
        ]

-- the rank of the entity, and that it is a head of that priority
record HasHead (d : DeviceState) (ring entity f : ℕ) (head : JobRecord) : Type 0 where
  priority : Priority
  rank : rank_at d entity ≡ rank_of priority
  is : IsHead d ring priority f head

to_head : (d : DeviceState) (ring entity f : ℕ) → IsSteady d → (m : MayBegin d ring entity f) → HasHead d ring entity f m.head
to_head d ring entity f steady m =
    let row = stands_within d.spec.entities entity m.there in
    let mark = stands_within d.entities entity (subst (λ n. entity < n) (sym steady.lawful.entity_count) m.there) in
    let going : mark.0.is_stopped ≡ false = sym (ap (λ o. option_map_or (λ (e : EntityState). e.is_stopped) o false) mark.1) ∙ m.active in
    let may : may_begin d row.0.priority entity ≡ true =
    and_from
    (option_map_or (λ (e : EntitySpec). rank_of e.priority == rank_of row.0.priority) (slice_get d.spec.entities entity) false)
    (option_map_or (λ (e : EntityState). not e.is_stopped) (slice_get d.entities entity) false)
    (ap (λ o. option_map_or (λ (e : EntitySpec). rank_of e.priority == rank_of row.0.priority) o false) row.1 ∙ eq-eqb (rank_of row.0.priority) (rank_of row.0.priority) refl)
    (ap (λ o. option_map_or (λ (e : EntityState). not e.is_stopped) o false) mark.1 ∙ ap not going) in
    let head : is_head_of entity d.journal f ≡ true = head_is_first d.journal entity f m.head m.first in
    record {
      priority = row.0.priority;
      rank = ap (λ o. option_map_or (λ (e : EntitySpec). rank_of e.priority) o 0) row.1;
      is = (
        m.first.at,
        and_from
            ((m.head.ring == ring) && may_begin d row.0.priority m.head.job.entity && is_head_of m.head.job.entity d.journal f)
            (is_ready d.journal f m.head)
            (and_from ((m.head.ring == ring) && may_begin d row.0.priority m.head.job.entity) (is_head_of m.head.job.entity d.journal f)
            (and_from (m.head.ring == ring) (may_begin d row.0.priority m.head.job.entity) (eq-eqb m.head.ring ring m.on_ring)
            (subst (λ e. may_begin d row.0.priority e ≡ true) (sym m.first.of_entity) may))
            (subst (λ e. is_head_of e d.journal f ≡ true) (sym m.first.of_entity) head))
            m.ready,
      );
    }

-- and the other way round
record HasBegin (d : DeviceState) (ring entity f : ℕ) (p : Priority) : Type 0 where
  may : MayBegin d ring entity f
  rank : rank_at d entity ≡ rank_of p

from_head : (d : DeviceState) (ring f : ℕ) (p : Priority) (head : JobRecord) → IsSteady d → IsHead d ring p f head → HasBegin d ring head.job.entity f p
from_head d ring f p head steady h = by_spec (slice_get d.spec.entities entity) refl both.0
  where
    entity : ℕ
    entity = head.job.entity

    three : (((head.ring == ring) && may_begin d p entity && is_head_of entity d.journal f) ≡ true) × (is_ready d.journal f head ≡ true)
    three = and_parts ((head.ring == ring) && may_begin d p entity && is_head_of entity d.journal f) (is_ready d.journal f head) h.1

    two : (((head.ring == ring) && may_begin d p entity) ≡ true) × (is_head_of entity d.journal f ≡ true)
    two = and_parts ((head.ring == ring) && may_begin d p entity) (is_head_of entity d.journal f) three.0

    one : ((head.ring == ring) ≡ true) × (may_begin d p entity ≡ true)
    one = and_parts (head.ring == ring) (may_begin d p entity) two.0

    both : (option_map_or (λ (e : EntitySpec). rank_of e.priority == rank_of p) (slice_get d.spec.entities entity) false ≡ true)
        × (option_map_or (λ (e : EntityState). not e.is_stopped) (slice_get d.entities entity) false ≡ true)
    both = and_parts
        (option_map_or (λ (e : EntitySpec). rank_of e.priority == rank_of p) (slice_get d.spec.entities entity) false)
        (option_map_or (λ (e : EntityState). not e.is_stopped) (slice_get d.entities entity) false) one.1

    going : (o : Option EntityState) → option_map_or (λ (e : EntityState). not e.is_stopped) o false ≡ true → option_map_or (λ (e : EntityState). e.is_stopped) o false ≡ false
    going None none = refl
    going (Some e) is = elim (cases_Bool e.is_stopped) [
      | inr no_more ↦ no_more
      | inl stopped ↦ let never : false ≡ true = sym (ap not stopped) ∙ is in absurd (cc (never))
    ]

    by_spec : (o : Option EntitySpec) → slice_get d.spec.entities entity ≡ o → option_map_or (λ (e : EntitySpec). rank_of e.priority == rank_of p) o false ≡ true
        → HasBegin d ring entity f p
    by_spec None at none = absurd (let never : false ≡ true = none in cc (never))
    by_spec (Some e) at some =
        let queue = head_of_queue d.journal entity f head h.0 refl two.1 in
        record {
          may = record {
            there = slice_get_within d.spec.entities entity e at;
            active = going (slice_get d.entities entity) both.1;
            head = head;
            first = record { at = h.0; of_entity = refl; queued = queue.0; first = queue.1 };
            on_ring = eqb-true head.ring ring one.0;
            ready = three.1;
          };
          rank = ap (λ o. option_map_or (λ (e : EntitySpec). rank_of e.priority) o 0) at ∙ eqb-true (rank_of e.priority) (rank_of p) some;
        }

-- ---- the least

-- the choice is the least
choice_is_least : (d : DeviceState) (ring f : ℕ) → IsSteady d → choice d ring ≡ Some f → IsLeast d ring f
choice_is_least d ring f steady is = record { entity = head.job.entity; may = mine.may; before = goes }
  where
    all : IsFirstOfAll d ring f
    all = first_of_all d ring f is

    head : JobRecord
    head = all.here.head

    mine : HasBegin d ring head.job.entity f all.priority
    mine = from_head d ring f all.priority head steady all.here.is

    goes : (other later : ℕ) → MayBegin d ring other later → (other ≡ head.job.entity → ⊥) → GoesBefore d head.job.entity f other later
    goes other later m apart =
        let its = to_head d ring other later steady m in
        elim (cases_lt (rank_of all.priority) (rank_of its.priority)) [
          | inl higher ↦ inl (omega (arith, higher, mine.rank, its.rank))
          | inr not_higher ↦ elim (cases_lt (rank_of its.priority) (rank_of all.priority)) [
            | inl lower ↦ absurd (no_head d ring its.priority later m.head (all.above its.priority lower) its.is)
            | inr not_lower ↦
                let alike : rank_of all.priority ≡ rank_of its.priority = omega (arith, not_higher, not_lower) in
                let least : f ≤ later = all.here.least later m.head (same_rank d ring all.priority its.priority later m.head alike its.is) in
                elim (cases_eq f later) [
                  | inl same ↦
                      let at : slice_get d.journal later ≡ Some head = subst (λ k. slice_get d.journal k ≡ Some head) same all.here.is.0 in
                      let one : m.head ≡ head = cc (at, m.first.at) in
                      absurd (apart (sym m.first.of_entity ∙ ap (λ (r : JobRecord). r.job.entity) one))
                  | inr differ ↦ inr (mine.rank ∙ (alike ∙ sym its.rank), omega (arith, least, differ))
                ]
          ]
        ]

-- where there is no choice no job may begin
no_choice : (d : DeviceState) (ring : ℕ) → IsSteady d → choice d ring ≡ None → NoneMayBegin d ring
no_choice d ring steady is entity f m =
    let its = to_head d ring entity f steady m in
    no_head d ring its.priority f m.head (none_at_all d ring is its.priority) its.is

-- an entity has one first queued job
one_first : (journal : List JobRecord) (entity f g : ℕ) (x y : JobRecord) → IsFirstQueued journal entity f x → IsFirstQueued journal entity g y → f ≡ g
one_first journal entity f g x y a b =
    elim (cases_lt f g) [
      | inl less ↦ absurd (both_ways (is_queued x.phase) (b.first f x less a.at a.of_entity) a.queued)
      | inr rest ↦ elim (cases_lt g f) [
        | inl more ↦ absurd (both_ways (is_queued y.phase) (a.first g y more b.at b.of_entity) b.queued)
        | inr same ↦ omega (arith, rest, same)
      ]
    ]

-- of two jobs one goes before the other
not_both : (d : DeviceState) (e f i j : ℕ) → GoesBefore d e f i j → GoesBefore d i j e f → ⊥
not_both d e f i j (inl a) (inl b) = omega (arith, a, b)
not_both d e f i j (inl a) (inr b) = omega (arith, a, b.0)
not_both d e f i j (inr a) (inl b) = omega (arith, a.0, b)
not_both d e f i j (inr a) (inr b) = omega (arith, a.1, b.1)

-- there is one least
one_least : (d : DeviceState) (ring f g : ℕ) → IsLeast d ring f → IsLeast d ring g → f ≡ g
one_least d ring f g a b =
    elim (cases_eq a.entity b.entity) [
      | inl same ↦ one_first d.journal a.entity f g a.may.head b.may.head a.may.first (subst (λ e. IsFirstQueued d.journal e g b.may.head) (sym same) b.may.first)
      | inr apart ↦
          absurd (not_both d a.entity f b.entity g (a.before b.entity g b.may (λ same. apart (sym same))) (b.before a.entity f a.may apart))
    ]

pub chooses_least : ChoiceIsLeast
chooses_least d ring steady = record {
  some = λ f. (choice_is_least d ring f steady, λ least. by_choice f least (choice d ring) refl);
  none = (no_choice d ring steady, λ none. by_none none (choice d ring) refl);
}
  where
    by_choice : (f : ℕ) → IsLeast d ring f → (o : Option ℕ) → choice d ring ≡ o → choice d ring ≡ Some f
    by_choice f least None is = absurd (no_choice d ring steady is least.entity f least.may)
    by_choice f least (Some g) is = is ∙ ap (λ k. Some k) (one_least d ring g f (choice_is_least d ring g steady is) least)

    by_none : NoneMayBegin d ring → (o : Option ℕ) → choice d ring ≡ o → choice d ring ≡ None
    by_none none None is = is
    by_none none (Some g) is = let least = choice_is_least d ring g steady is in absurd (none least.entity g least.may)
