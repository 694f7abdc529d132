-- The queues of a device's entities, as its jobs go on.
use Rattle.std.proofs.Common.{◌≡◌, ◌≢◌, ℕ, zero, suc, ◌+◌, ◌<◌, Bool, true, false, cond, ◌&&◌, ◌==◌, List, [], ◌∷◌, ◌++◌, map, length, set, Some, None, Option, refl, sym, ap, subst, ◌∙◌, inl, inr, ◌⊎◌, arith, slice_get, append-nil}
use Rattle.std.specs.Prelude.{filter, option_map, Contains, IfSome, IfNone}
use Rattle.std.specs.Option.{option_map_or}
use Rattle.std.specs.List.{enumerate_from}
use Rattle.std.proofs.lemmas.Bool.{cases_eq, ne_eqb, eq-eqb, eqb-true, cases_Bool, and_parts}
use Rattle.std.proofs.lemmas.List.{map-set, length-set}
use Rattle.std.proofs.lemmas.Option.{slice_get_within}
use Rattle.drm_lists.proofs.Searches.{find_first}
use Rattle.drm_lists.proofs.Places.{stands_within, place_of, to_map}
use Rattle.drm_lists.proofs.Changed.{get_set_same, get_set_other, set_same}
use Rattle.drm_types.specs.Firsts.{first}
use Rattle.drm_fence.specs.Phases.{is_queued}
use Rattle.drm_entity.specs.Rows.{EntityRow, EntityRows, queue_at, row_changed, pushed, popped, IsFresh}
use Rattle.drm_state.specs.declared.journal.JobRecord.{JobRecord}
use Rattle.drm_state.specs.State.{EntityState}
use Rattle.drm_state.specs.Ring.{entity_changed}
use Rattle.drm_state.specs.Journal.{numbered}
use Rattle.drm_state.specs.Choice.{queue_of, is_head_of}
use Rattle.drm_table.specs.Plain.{marks_of, marks, queued_of, QueuesStand}
use Rattle.drm_state.proofs.ChoiceIs.{first-filter, numbered_get, is_queued_of}
use Rattle.drm_table.proofs.Candidates.{head_number}

-- ---- the numbers of a queue

-- whether the record waits in the queue of the entity
abbrev pub waits_in : ℕ → JobRecord → Bool
waits_in entity r = (r.job.entity == entity) && is_queued r.phase

-- the numbers of the waiting records, counted from k
abbrev numbers : ℕ → ℕ → List JobRecord → List ℕ
numbers entity k journal = map (λ (n : ℕ × JobRecord). n.0) (filter (λ (n : ℕ × JobRecord). waits_in entity n.1) (enumerate_from k journal))

-- a record in front stands in the queue where it waits there
in_front : (entity k : ℕ) (r : JobRecord) (rs : List JobRecord) (b : Bool) → waits_in entity r ≡ b
    → numbers entity k (r ∷ rs) ≡ cond b (k ∷ numbers entity (k + 1) rs) (numbers entity (k + 1) rs)
in_front entity k r rs b is =
    let rest = filter (λ (n : ℕ × JobRecord). waits_in entity n.1) (enumerate_from (k + 1) rs) in
    ap (λ t. map (λ (n : ℕ × JobRecord). n.0) (cond t ((k, r) ∷ rest) rest)) is ∙ by_case b
  where
    by_case : (b : Bool) → map (λ (n : ℕ × JobRecord). n.0) (cond b ((k, r) ∷ filter (λ (n : ℕ × JobRecord). waits_in entity n.1) (enumerate_from (k + 1) rs)) (filter (λ (n : ℕ × JobRecord). waits_in entity n.1) (enumerate_from (k + 1) rs)))
        ≡ cond b (k ∷ numbers entity (k + 1) rs) (numbers entity (k + 1) rs)
    by_case true = refl
    by_case false = refl

-- a record that changes and waits as before stays where it is
set_numbers : (entity k n : ℕ) (journal : List JobRecord) (r new : JobRecord) → slice_get journal n ≡ Some r → waits_in entity new ≡ waits_in entity r
    → numbers entity k (set journal n new) ≡ numbers entity k journal
set_numbers entity k n [] r new at same = refl
set_numbers entity k zero (x ∷ xs) r new at same =
    let is : x ≡ r = cc (at) in
    let alike : waits_in entity new ≡ waits_in entity x = same ∙ ap (waits_in entity) (sym is) in
    in_front entity k new xs (waits_in entity x) alike ∙ sym (in_front entity k x xs (waits_in entity x) refl)
set_numbers entity k (suc n) (x ∷ xs) r new at same =
    in_front entity k x (set xs n new) (waits_in entity x) refl
    ∙ (ap (λ ns. cond (waits_in entity x) (k ∷ ns) ns) (set_numbers entity (k + 1) n xs r new at same)
    ∙ sym (in_front entity k x xs (waits_in entity x) refl))

-- so do all records
map_numbers : (entity k : ℕ) (change : JobRecord → JobRecord) (journal : List JobRecord) → ((r : JobRecord) → waits_in entity (change r) ≡ waits_in entity r)
    → numbers entity k (map change journal) ≡ numbers entity k journal
map_numbers entity k change [] same = refl
map_numbers entity k change (x ∷ xs) same =
    in_front entity k (change x) (map change xs) (waits_in entity x) (same x)
    ∙ (ap (λ ns. cond (waits_in entity x) (k ∷ ns) ns) (map_numbers entity (k + 1) change xs same)
    ∙ sym (in_front entity k x xs (waits_in entity x) refl))

-- a new record that waits is the last
push_numbers : (entity k : ℕ) (journal : List JobRecord) (r : JobRecord) (b : Bool) → waits_in entity r ≡ b
    → numbers entity k (journal ++ r ∷ []) ≡ numbers entity k journal ++ cond b ((k + length journal) ∷ []) []
push_numbers entity k [] r b is =
    let here : k ≡ k + 0 = omega arith in
    in_front entity k r [] b is ∙ ap (λ n. cond b (n ∷ []) []) here
push_numbers entity k (x ∷ xs) r b is =
    let place : (k + 1) + length xs ≡ k + suc (length xs) = omega arith in
    in_front entity k x (xs ++ r ∷ []) (waits_in entity x) refl
    ∙ (ap (λ ns. cond (waits_in entity x) (k ∷ ns) ns) (push_numbers entity (k + 1) xs r b is ∙ ap (λ n. numbers entity (k + 1) xs ++ cond b (n ∷ []) []) place)
    ∙ (behind (waits_in entity x) (numbers entity (k + 1) xs) (cond b ((k + suc (length xs)) ∷ []) [])
    ∙ ap (λ ns. ns ++ cond b ((k + suc (length xs)) ∷ []) []) (sym (in_front entity k x xs (waits_in entity x) refl))))
  where
    behind : (w : Bool) (ns more : List ℕ) → cond w (k ∷ (ns ++ more)) (ns ++ more) ≡ cond w (k ∷ ns) ns ++ more
    behind true ns more = refl
    behind false ns more = refl

-- each number is that of a record
numbers_below : (entity k : ℕ) (journal : List JobRecord) (i n : ℕ) → slice_get (numbers entity k journal) i ≡ Some n → n < k + length journal
numbers_below entity k [] i n at = absurd (cc (at))
numbers_below entity k (x ∷ xs) i n at =
    by_case (waits_in entity x) i (λ j there. let lt = numbers_below entity (k + 1) xs j n there in omega (arith, lt))
    (subst (λ ns. slice_get ns i ≡ Some n) (in_front entity k x xs (waits_in entity x) refl) at)
  where
    by_case : (w : Bool) (i : ℕ) → ((j : ℕ) → slice_get (numbers entity (k + 1) xs) j ≡ Some n → n < k + suc (length xs))
        → slice_get (cond w (k ∷ numbers entity (k + 1) xs) (numbers entity (k + 1) xs)) i ≡ Some n → n < k + suc (length xs)
    by_case true zero behind here = let same : k ≡ n = cc (here) in omega (arith, same)
    by_case true (suc j) behind there = behind j there
    by_case false j behind there = behind j there

-- the first that no longer waits leaves the queue
first_leaves : (entity k n : ℕ) (journal : List JobRecord) (r new : JobRecord) → slice_get journal n ≡ Some r → waits_in entity r ≡ true → waits_in entity new ≡ false
    → first (numbers entity k journal) ≡ Some (k + n) → numbers entity k journal ≡ (k + n) ∷ numbers entity k (set journal n new)
first_leaves entity k n [] r new at waits gone is = absurd (cc (at))
first_leaves entity k zero (x ∷ xs) r new at waits gone is =
    let same : x ≡ r = cc (at) in
    let here : k ≡ k + 0 = omega arith in
    in_front entity k x xs true (ap (waits_in entity) same ∙ waits)
    ∙ (ap (λ ns. k ∷ ns) (sym (in_front entity k new xs false gone)) ∙ ap (λ m. m ∷ numbers entity k (new ∷ xs)) here)
first_leaves entity k (suc n) (x ∷ xs) r new at waits gone is =
    elim (cases_Bool (waits_in entity x)) [
      | inl passes ↦
          let front : Some k ≡ Some (k + suc n) = sym (ap first (in_front entity k x xs true passes)) ∙ is in
          let same : k ≡ k + suc n = cc (front) in absurd (omega (arith, same))
      | inr fails ↦
          let place : (k + 1) + n ≡ k + suc n = omega arith in
          let before = in_front entity k x xs false fails in
          let behind = in_front entity k x (set xs n new) false fails in
          before
          ∙ (first_leaves entity (k + 1) n xs r new at waits gone (sym (ap first before) ∙ (is ∙ ap (λ m. Some m) (sym place)))
          ∙ (ap (λ m. m ∷ numbers entity (k + 1) (set xs n new)) place ∙ ap (λ ns. (k + suc n) ∷ ns) (sym behind)))
    ]

-- the first in the queue of an entity
pub record IsFront (journal : List JobRecord) (entity number : ℕ) (r : JobRecord) : Type 0 where
  pub first : first (queue_of entity journal) ≡ Some (number, r)
  pub at : slice_get journal number ≡ Some r
  pub of_entity : r.job.entity ≡ entity
  pub queued : is_queued r.phase ≡ true

pub front_is : (journal : List JobRecord) (entity number : ℕ) → head_number journal entity ≡ Some number → (r : JobRecord) × IsFront journal entity number r
front_is journal entity number is = by_first (first (queue_of entity journal)) refl is
  where
    by_first : (o : Option (ℕ × JobRecord)) → first (queue_of entity journal) ≡ o → option_map (λ (n : ℕ × JobRecord). n.0) o ≡ Some number
        → (r : JobRecord) × IsFront journal entity number r
    by_first None none some = absurd (cc (some))
    by_first (Some n) is_n some =
        let same : n.0 ≡ number = cc (some) in
        let found = find_first (is_queued_of entity) (numbered journal) n (sym (first-filter (is_queued_of entity) (numbered journal)) ∙ is_n) in
        let there = numbered_get journal 0 found.0 n found.1 in
        let place : found.0 ≡ number = omega (arith, there.0, same) in
        let passes = and_parts (n.1.job.entity == entity) (is_queued n.1.phase) found.2 in (
          n.1,
          record {
            first = is_n ∙ ap (λ m. let front : Option (ℕ × JobRecord) = Some (m, n.1) in front) same;
            at = subst (λ m. slice_get journal m ≡ Some n.1) place there.1;
            of_entity = eqb-true n.1.job.entity entity passes.0;
            queued = passes.1;
          },
        )

-- the head of a queue has its number
pub head_numbered : (journal : List JobRecord) (entity number : ℕ) → is_head_of entity journal number ≡ true → head_number journal entity ≡ Some number
head_numbered journal entity number heads = by_first (first (queue_of entity journal)) heads
  where
    by_first : (o : Option (ℕ × JobRecord)) → option_map_or (λ (n : ℕ × JobRecord). n.0 == number) o false ≡ true → option_map (λ (n : ℕ × JobRecord). n.0) o ≡ Some number
    by_first None none = absurd (let never : false ≡ true = none in cc (never))
    by_first (Some n) some = ap (λ m. Some m) (eqb-true n.0 number some)

-- ---- the rows of the entities

-- the rows after a change of one that is there
rows_changed : (e : EntityRows) (entity : ℕ) (row : EntityRow) (change : EntityRow → EntityRow) → slice_get e.rows entity ≡ Some row
    → (row_changed e entity change).rows ≡ set e.rows entity (change row)
rows_changed e entity row change at = ap (λ o. option_map_or (λ r. set e.rows entity (change r)) o e.rows) at

rows_count : (e : EntityRows) (entity : ℕ) (row : EntityRow) (change : EntityRow → EntityRow) → slice_get e.rows entity ≡ Some row
    → length (row_changed e entity change).rows ≡ length e.rows
rows_count e entity row change at = ap length (rows_changed e entity row change at) ∙ length-set e.rows entity (change row)

-- the queue of the changed row, and of the others
queue_changed : (e : EntityRows) (entity other : ℕ) (row : EntityRow) (change : EntityRow → EntityRow) → slice_get e.rows entity ≡ Some row
    → ((other ≡ entity) × (queue_at (row_changed e entity change) other ≡ (change row).queue) × (queue_at e other ≡ row.queue))
    ⊎ ((other ≢ entity) × (queue_at (row_changed e entity change) other ≡ queue_at e other))
queue_changed e entity other row change at =
    let queue : Option EntityRow → List ℕ = λ o. option_map_or (λ (r : EntityRow). r.queue) o [] in
    let rows = rows_changed e entity row change at in
    elim (cases_eq other entity) [
      | inl same ↦ inl (
        same,
        ap (λ rs. queue (slice_get rs other)) rows
            ∙ (ap (λ n. queue (slice_get (set e.rows entity (change row)) n)) same ∙ ap queue (get_set_same e.rows entity row (change row) at)),
        ap (λ n. queue (slice_get e.rows n)) same ∙ ap queue at,
      )
      | inr apart ↦ inr (apart, ap (λ rs. queue (slice_get rs other)) rows ∙ ap queue (get_set_other e.rows entity other (change row) apart))
    ]

-- the marks after a change that leaves them, and after one that does not
marks_stay : (e : EntityRows) (entity : ℕ) (row : EntityRow) (change : EntityRow → EntityRow) → slice_get e.rows entity ≡ Some row
    → marks_of (change row) ≡ marks_of row → marks (row_changed e entity change) ≡ marks e
marks_stay e entity row change at same =
    ap (map marks_of) (rows_changed e entity row change at)
    ∙ (map-set marks_of e.rows entity (change row)
    ∙ (ap (set (marks e) entity) same ∙ set_same (marks e) entity (marks_of row) (to_map marks_of e.rows entity row at)))

pub marks_changed : (e : EntityRows) (entity : ℕ) (row : EntityRow) (change : EntityRow → EntityRow) (mark : EntityState → EntityState) → slice_get e.rows entity ≡ Some row
    → marks_of (change row) ≡ mark (marks_of row) → marks (row_changed e entity change) ≡ entity_changed (marks e) entity mark
marks_changed e entity row change mark at same =
    ap (map marks_of) (rows_changed e entity row change at)
    ∙ (map-set marks_of e.rows entity (change row)
    ∙ (ap (set (marks e) entity) same
    ∙ sym (ap (λ o. option_map_or (λ s. set (marks e) entity (mark s)) o (marks e)) (to_map marks_of e.rows entity row at))))

-- a mark that was read is that of the state
pub guilty_is : (e : EntityRows) (entity : ℕ) (marked : Bool) → entity < length e.rows → IfSome (slice_get e.rows entity) (λ r. marked ≡ r.is_guilty)
    → marked ≡ option_map_or (λ (s : EntityState). s.is_guilty) (slice_get (marks e) entity) false
guilty_is e entity marked lt is =
    let row = stands_within e.rows entity lt in
    subst (λ o. IfSome o (λ r. marked ≡ r.is_guilty)) row.1 is
    ∙ sym (ap (λ o. option_map_or (λ (s : EntityState). s.is_guilty) o false) (to_map marks_of e.rows entity row.0 row.1))

-- ---- how the queues go on

-- the first of a queue is the head
first-numbers : (xs : List (ℕ × JobRecord)) → first (map (λ (n : ℕ × JobRecord). n.0) xs) ≡ option_map (λ (n : ℕ × JobRecord). n.0) (first xs)
first-numbers [] = refl
first-numbers (x ∷ xs) = refl

pub head_is_first : (journal : List JobRecord) (e : EntityRows) (entity : ℕ) → QueuesStand journal e → entity < length e.rows → first (queue_at e entity) ≡ head_number journal entity
head_is_first journal e entity stand lt = ap first (stand entity lt) ∙ first-numbers (queue_of entity journal)

pub head_there : (journal : List JobRecord) (e : EntityRows) (entity age : ℕ) → QueuesStand journal e → entity < length e.rows → Some age ≡ first (queue_at e entity)
    → (head_number journal entity ≡ Some age) × (age < length journal)
head_there journal e entity age stand lt is =
    let found = sym (head_is_first journal e entity stand lt) ∙ sym is in
    let front = front_is journal entity age found in (found, slice_get_within journal age front.0 front.1.at)

-- the queues stand where a record changes that waits as before
pub stands_set : (journal : List JobRecord) (n : ℕ) (r new : JobRecord) (e : EntityRows) → slice_get journal n ≡ Some r → new.job ≡ r.job → is_queued new.phase ≡ is_queued r.phase
    → QueuesStand journal e → QueuesStand (set journal n new) e
stands_set journal n r new e at job phase stand entity lt =
    stand entity lt
    ∙ sym (set_numbers entity 0 n journal r new at (ap (λ b. (new.job.entity == entity) && b) phase ∙ ap (λ j. (j.entity == entity) && is_queued r.phase) job))

-- and where all do
pub stands_map : (journal : List JobRecord) (change : JobRecord → JobRecord) (e : EntityRows) → ((entity : ℕ) (r : JobRecord) → waits_in entity (change r) ≡ waits_in entity r)
    → QueuesStand journal e → QueuesStand (map change journal) e
stands_map journal change e same stand entity lt = stand entity lt ∙ sym (map_numbers entity 0 change journal (same entity))

-- where the marks of an entity change
pub stands_marked : (journal : List JobRecord) (e : EntityRows) (entity : ℕ) (row : EntityRow) (change : EntityRow → EntityRow) → slice_get e.rows entity ≡ Some row
    → (change row).queue ≡ row.queue → QueuesStand journal e → QueuesStand journal (row_changed e entity change)
stands_marked journal e entity row change at same stand other lt =
    let there : other < length e.rows = subst (λ n. other < n) (rows_count e entity row change at) lt in
    elim (queue_changed e entity other row change at) [
      | inl here ↦ here.1 ∙ (same ∙ (sym here.2 ∙ stand other there))
      | inr apart ↦ apart.1 ∙ stand other there
    ]

-- a new number stands in no queue
pub is_fresh : (journal : List JobRecord) (e : EntityRows) → QueuesStand journal e → IsFresh e (length journal)
is_fresh journal e stand entity inside = by_row (slice_get e.rows entity) refl inside
  where
    by_row : (o : Option EntityRow) → slice_get e.rows entity ≡ o → Contains (queue_at e entity) (length journal) → ⊥
    by_row None none has =
        let place = place_of [] (length journal) (subst (λ ns. Contains ns (length journal)) (ap (λ o. option_map_or (λ (r : EntityRow). r.queue) o []) none) has) in
        absurd (cc (place.1))
    by_row (Some row) at has =
        let place = place_of (queued_of entity journal) (length journal) (subst (λ ns. Contains ns (length journal)) (stand entity (slice_get_within e.rows entity row at)) has) in
        let lt = numbers_below entity 0 journal place.0 (length journal) place.1 in omega (arith, lt)

-- a job that is armed is the last in the queue of its entity
pub stands_pushed : (journal : List JobRecord) (new : JobRecord) (e : EntityRows) (entity : ℕ) (row : EntityRow) → slice_get e.rows entity ≡ Some row → new.job.entity ≡ entity
    → is_queued new.phase ≡ true → QueuesStand journal e → QueuesStand (journal ++ new ∷ []) (pushed e entity (length journal))
stands_pushed journal new e entity row at of_entity queued stand other lt =
    let change : EntityRow → EntityRow = λ r. record r { queue = r.queue ++ length journal ∷ [] } in
    let there : other < length e.rows = subst (λ n. other < n) (rows_count e entity row change at) lt in
    let number : 0 + length journal ≡ length journal = omega arith in
    elim (queue_changed e entity other row change at) [
      | inl here ↦
          let waits : waits_in other new ≡ true = ap (λ b. b && is_queued new.phase) (eq-eqb new.job.entity other (of_entity ∙ sym here.0)) ∙ queued in
          here.1
          ∙ (ap (λ ns. ns ++ length journal ∷ []) (sym here.2 ∙ stand other there)
          ∙ (ap (λ n. queued_of other journal ++ n ∷ []) (sym number) ∙ sym (push_numbers other 0 journal new true waits)))
      | inr apart ↦
          let waits : waits_in other new ≡ false = ap (λ b. b && is_queued new.phase) (ne_eqb new.job.entity other (λ same. apart.0 (sym same ∙ of_entity))) in
          apart.1 ∙ (stand other there ∙ (sym (append-nil (queued_of other journal)) ∙ sym (push_numbers other 0 journal new false waits)))
    ]

pub marks_pushed : (e : EntityRows) (entity number : ℕ) (row : EntityRow) → slice_get e.rows entity ≡ Some row → marks (pushed e entity number) ≡ marks e
marks_pushed e entity number row at = marks_stay e entity row (λ r. record r { queue = r.queue ++ number ∷ [] }) at refl

-- the entities after their queue lost its first
pub record IsPopped (journal : List JobRecord) (e new : EntityRows) : Type 0 where
  pub stand : QueuesStand journal new
  pub marks_same : marks new ≡ marks e
  pub places : new.places ≡ e.places

-- a head that no longer waits leaves its queue
pub stands_popped : (journal : List JobRecord) (e new : EntityRows) (entity n : ℕ) (r left : JobRecord) (result : Option ℕ) → slice_get journal n ≡ Some r → r.job.entity ≡ entity
    → is_queued r.phase ≡ true → is_queued left.phase ≡ false → head_number journal entity ≡ Some n → entity < length e.rows
    → IfSome result (λ number. (rest : List ℕ) × (queue_at e entity ≡ number ∷ rest) × (new ≡ popped e entity rest))
    → IfNone result ((queue_at e entity ≡ []) × (new ≡ e)) → QueuesStand journal e → IsPopped (set journal n left) e new
stands_popped journal e new entity n r left None at of_entity queued gone head lt some none stand =
    let is : None ≡ Some n = sym (ap first none.0) ∙ (head_is_first journal e entity stand lt ∙ head) in absurd (cc (is))
stands_popped journal e new entity n r left (Some number) at of_entity queued gone head lt some none stand =
    let row = stands_within e.rows entity lt in
    let rest : List ℕ = some.0 in
    let change : EntityRow → EntityRow = λ r. record r { queue = rest } in
    let place : n ≡ 0 + n = omega arith in
    let waits : waits_in entity r ≡ true = ap (λ b. b && is_queued r.phase) (eq-eqb r.job.entity entity of_entity) ∙ queued in
    let leaves =
    first_leaves entity 0 n journal r left at waits (gone_waits entity)
    (sym (ap first (stand entity lt)) ∙ (head_is_first journal e entity stand lt ∙ (head ∙ ap (λ m. Some m) place))) in
    let both : number ∷ rest ≡ (0 + n) ∷ queued_of entity (set journal n left) = sym some.1 ∙ (stand entity lt ∙ leaves) in
    let rest_is : rest ≡ queued_of entity (set journal n left) = cc (both) in
    subst (IsPopped (set journal n left) e) (sym some.2) (record {
      stand = λ other within.
          let there : other < length e.rows = subst (λ n. other < n) (rows_count e entity row.0 change row.1) within in
          elim (queue_changed e entity other row.0 change row.1) [
            | inl here ↦ here.1 ∙ (rest_is ∙ ap (λ m. queued_of m (set journal n left)) (sym here.0))
            | inr apart ↦
                let waited : waits_in other r ≡ false = ap (λ b. b && is_queued r.phase) (ne_eqb r.job.entity other (λ same. apart.0 (sym same ∙ of_entity))) in
                apart.1 ∙ (stand other there ∙ sym (set_numbers other 0 n journal r left at (gone_waits other ∙ sym waited)))
          ];
      marks_same = marks_stay e entity row.0 change row.1 refl;
      places = refl;
    })
  where
    never_waits : (b : Bool) → (b && false) ≡ false
    never_waits true = refl
    never_waits false = refl

    gone_waits : (other : ℕ) → waits_in other left ≡ false
    gone_waits other = ap (λ b. (left.job.entity == other) && b) gone ∙ never_waits (left.job.entity == other)
