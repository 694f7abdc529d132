-- What changes of the heads when one is put in place, or taken out.
use Rattle.std.proofs.Common.{◌≡◌, ◌≢◌, ℕ, ◌<◌, Bool, true, false, cond, ◌&&◌, ◌==◌, List, [], length, set, Some, None, Option, refl, sym, ap, subst, ◌∙◌, inl, inr, arith, slice_get, get_or}
use Rattle.std.specs.Prelude.{option_map, All}
use Rattle.std.proofs.lemmas.List.Elements.{All-weaker}
use Rattle.std.specs.Option.{option_map_or}
use Rattle.std.specs.List.{filter}
use Rattle.std.proofs.lemmas.Bool.{cases_Bool, cases_eq, ne_eqb, eq-eqb}
use Rattle.std.proofs.lemmas.List.{length-set, length-map}
use Rattle.drm_types.specs.declared.spec.DeviceSpec.{DeviceSpec}
use Rattle.drm_types.specs.declared.spec.EntitySpec.{EntitySpec}
use Rattle.drm_types.specs.Firsts.{first}
use Rattle.drm_fence.specs.declared.pair.Pair.{Pair}
use Rattle.drm_fence.specs.Waiting.{Waiting, without_entity}
use Rattle.drm_runq.specs.declared.key.Key.{Key}
use Rattle.drm_sched.specs.declared.heads.Heads.{Heads}
use Rattle.drm_state.specs.declared.journal.JobRecord.{JobRecord}
use Rattle.drm_state.specs.Choice.{queue_of}
use Rattle.drm_sched.specs.Heads.{keys_at, with_key, key_of, head_key, AreWatched, HeadsAre, HeadsStand, HeadsStandBut}
use Rattle.drm_state.specs.Ring.{is_stopped}
use Rattle.drm_state.specs.State.{DeviceState}
use Rattle.drm_sched.specs.Watching.{unmet_pairs, watched_of}
use Rattle.drm_table.specs.declared.table.Table.{Table}
use Rattle.drm_table.specs.Plain.{marks_of}
use Rattle.drm_table.specs.Tables.{IsWhole}
use Rattle.drm_state.specs.Waits.{IsDependency}
use Rattle.drm_fence.specs.Phases.{has_ended}
use Rattle.std.proofs.lemmas.Option.{slice_get_within}
use Rattle.drm_lists.proofs.Places.{stands_within, at_index}
use Rattle.drm_lists.proofs.Changed.{get_set_cases}
use Rattle.drm_entity.specs.Rows.{queue_at}
use Rattle.drm_table.proofs.Queues.{IsFront, front_is, head_is_first}
use Rattle.drm_table.proofs.TableFacts.{entity_there, entity_row_there}
use Rattle.drm_sched.proofs.HeadChoice.{keys_there, watched_is}
use Rattle.drm_sched.proofs.Watching.{left_of, forgotten, kept_of}

-- the same keys and pairs, told in other words
pub told_alike : (spec : DeviceSpec) (key new_key : ℕ → ℕ → Option Key) (watched new_watched : ℕ → List Pair) (h : Heads) → HeadsAre spec key watched h
    → ((ring e : ℕ) → new_key ring e ≡ key ring e) → ((e : ℕ) → new_watched e ≡ watched e) → HeadsAre spec new_key new_watched h
told_alike spec key new_key watched new_watched h are keys pairs = record {
  rings = are.rings;
  entities = are.entities;
  keys = λ ring e ks k at_ring at. are.keys ring e ks k at_ring at ∙ sym (keys ring e);
  watches = λ e. subst (AreWatched h.waiters.pairs e) (sym (pairs e)) (are.watches e);
  waiting = are.waiting;
  fences = are.fences;
}

-- a new key is told by this function
abbrev pub put_key : (ℕ → ℕ → Option Key) → ℕ → ℕ → Option Key → ℕ → ℕ → Option Key
put_key key ring entity new r e = cond ((r == ring) && (e == entity)) new (key r e)

and_no : (b : Bool) {X : Type 0} (x y : X) → cond (b && false) x y ≡ y
and_no true x y = refl
and_no false x y = refl

put_here : (key : ℕ → ℕ → Option Key) (ring entity r e : ℕ) (new : Option Key) → r ≡ ring → e ≡ entity → new ≡ put_key key ring entity new r e
put_here key ring entity r e new same_r same_e =
    sym (ap (λ b. cond (b && (e == entity)) new (key r e)) (eq-eqb r ring same_r) ∙ ap (λ b. cond b new (key r e)) (eq-eqb e entity same_e))

put_elsewhere : (key : ℕ → ℕ → Option Key) (ring entity r e : ℕ) (new : Option Key) → e ≢ entity → put_key key ring entity new r e ≡ key r e
put_elsewhere key ring entity r e new apart = ap (λ b. cond ((r == ring) && b) new (key r e)) (ne_eqb e entity apart) ∙ and_no (r == ring) new (key r e)

put_on_another : (key : ℕ → ℕ → Option Key) (ring entity r e : ℕ) (new : Option Key) → r ≢ ring → put_key key ring entity new r e ≡ key r e
put_on_another key ring entity r e new apart = ap (λ b. cond (b && (e == entity)) new (key r e)) (ne_eqb r ring apart)

-- the queues with one key changed, beside waiters with these pairs
pub key_put : (spec : DeviceSpec) (key : ℕ → ℕ → Option Key) (watched new_watched : ℕ → List Pair) (h n : Heads) (ring entity : ℕ) (new : Option Key) → HeadsAre spec key watched h
    → ring < length spec.rings → entity < length spec.entities → n.queues.items ≡ with_key h.queues.items ring entity new
    → ((e : ℕ) → AreWatched n.waiters.pairs e (new_watched e)) → n.waiters.entities ≡ h.waiters.entities → n.waiters.fences ≡ h.waiters.fences
    → HeadsAre spec (put_key key ring entity new) new_watched n
key_put spec key watched new_watched h n ring entity new are there here is pairs waiting fences =
    let rings = are.rings in
    let at_ring = keys_there h ring (omega (arith, there, rings)) in
    let old = keys_at h.queues.items ring in
    let count = are.entities ring old at_ring in
    let at_entity = stands_within old entity (omega (arith, here, count)) in
    record {
      rings = ap length is ∙ (length-set h.queues.items ring (set old entity new) ∙ are.rings);
      entities = λ r ks at.
          elim (get_set_cases h.queues.items ring r old (set old entity new) ks at_ring (subst (λ qs. slice_get qs r ≡ Some ks) is at)) [
            | inl same ↦ ap length same.1 ∙ (length-set old entity new ∙ count)
            | inr other ↦ are.entities r ks other.1
          ];
      keys = λ r e ks k at at_e.
          elim (get_set_cases h.queues.items ring r old (set old entity new) ks at_ring (subst (λ qs. slice_get qs r ≡ Some ks) is at)) [
            | inl same ↦ elim (get_set_cases old entity e at_entity.0 new k at_entity.1 (subst (λ xs. slice_get xs e ≡ Some k) same.1 at_e)) [
              | inl both ↦ both.1 ∙ put_here key ring entity r e new same.0 both.0
              | inr other ↦
                  are.keys ring e old k at_ring other.1
                  ∙ (ap (λ x. key x e) (sym same.0) ∙ sym (put_elsewhere key ring entity r e new other.0))
            ]
            | inr other ↦ are.keys r e ks k other.1 at_e ∙ sym (put_on_another key ring entity r e new other.0)
          ];
      watches = pairs;
      waiting = waiting ∙ are.waiting;
      fences = fences ∙ are.fences;
    }

-- one is left out
abbrev pub but_key : ℕ → (ℕ → ℕ → Option Key) → ℕ → ℕ → Option Key
but_key entity key ring e = cond (e == entity) None (key ring e)

abbrev pub but_watched : ℕ → (ℕ → List Pair) → ℕ → List Pair
but_watched entity watched e = cond (e == entity) [] (watched e)

-- an entity that has no head
pub no_head_stands : (d : DeviceState) (waits : List (List (ℕ × ℕ))) (entity : ℕ) (h : Heads) → HeadsStandBut d waits entity h
    → ((ring : ℕ) → head_key d ring entity ≡ None) → watched_of d waits entity ≡ [] → HeadsStand d waits h
no_head_stands d waits entity h but none nothing =
    told_alike d.spec (but_key entity (head_key d)) (head_key d) (but_watched entity (watched_of d waits)) (watched_of d waits) h but
    (λ ring e. by_key ring e)
    (λ e. by_watched e)
  where
    by_key : (ring e : ℕ) → head_key d ring e ≡ but_key entity (head_key d) ring e
    by_key ring e =
        elim (cases_eq e entity) [
          | inl same ↦ ap (head_key d ring) same ∙ (none ring ∙ sym (ap (λ b. cond b None (head_key d ring e)) (eq-eqb e entity same)))
          | inr apart ↦ sym (ap (λ b. cond b None (head_key d ring e)) (ne_eqb e entity apart))
        ]

    by_watched : (e : ℕ) → watched_of d waits e ≡ but_watched entity (watched_of d waits) e
    by_watched e =
        elim (cases_eq e entity) [
          | inl same ↦ ap (watched_of d waits) same ∙ (nothing ∙ sym (ap (λ b. cond b [] (watched_of d waits e)) (eq-eqb e entity same)))
          | inr apart ↦ sym (ap (λ b. cond b [] (watched_of d waits e)) (ne_eqb e entity apart))
        ]

-- where an entity is stopped, or nothing is queued
pub stopped_key : (d : DeviceState) (entity ring : ℕ) → is_stopped d entity ≡ true → head_key d ring entity ≡ None
stopped_key d entity ring stopped =
    ap (λ b. cond b None (option_map_or (λ (n : ℕ × JobRecord). cond (n.1.ring == ring) (key_of d.spec entity n.0) None) (first (queue_of entity d.journal)) None)) stopped

pub stopped_watched : (d : DeviceState) (waits : List (List (ℕ × ℕ))) (entity : ℕ) → is_stopped d entity ≡ true → watched_of d waits entity ≡ []
stopped_watched d waits entity stopped =
    ap (λ b. cond b [] (option_map_or (λ (n : ℕ × JobRecord). unmet_pairs d.journal entity n.1.ring (option_map_or (λ ds. ds) (slice_get waits n.0) [])) (first (queue_of entity d.journal)) [])) stopped

pub empty_key : (d : DeviceState) (entity ring : ℕ) → first (queue_of entity d.journal) ≡ None → head_key d ring entity ≡ None
empty_key d entity ring none =
    ap (λ o. cond (is_stopped d entity) None (option_map_or (λ (n : ℕ × JobRecord). cond (n.1.ring == ring) (key_of d.spec entity n.0) None) o None)) none
    ∙ either (is_stopped d entity)
  where
    either : (b : Bool) → cond {A = Option Key} b None None ≡ None
    either true = refl
    either false = refl

pub empty_watched : (d : DeviceState) (waits : List (List (ℕ × ℕ))) (entity : ℕ) → first (queue_of entity d.journal) ≡ None → watched_of d waits entity ≡ []
empty_watched d waits entity none =
    ap (λ o. cond (is_stopped d entity) [] (option_map_or (λ (n : ℕ × JobRecord). unmet_pairs d.journal entity n.1.ring (option_map_or (λ ds. ds) (slice_get waits n.0) [])) o [])) none
    ∙ either (is_stopped d entity)
  where
    either : (b : Bool) → cond {A = List Pair} b [] [] ≡ []
    either true = refl
    either false = refl

-- the key of a head on the rings
pub own_key : (d : DeviceState) (entity ring number : ℕ) (r : JobRecord) → is_stopped d entity ≡ false → first (queue_of entity d.journal) ≡ Some (number, r)
    → head_key d ring entity ≡ cond (r.ring == ring) (key_of d.spec entity number) None
own_key d entity ring number r going is =
    ap (λ b. cond b None (option_map_or (λ (n : ℕ × JobRecord). cond (n.1.ring == ring) (key_of d.spec entity n.0) None) (first (queue_of entity d.journal)) None)) going
    ∙ ap (λ o. option_map_or (λ (n : ℕ × JobRecord). cond (n.1.ring == ring) (key_of d.spec entity n.0) None) o None) is

-- the entities and the fences of dependencies are there
pub deps_there : (t : Table) (number : ℕ) (r : JobRecord) (deps : List (ℕ × ℕ)) (w : Waiting) → IsWhole t → slice_get t.journal.items number ≡ Some r → has_ended r.phase ≡ false
    → slice_get t.waits.lists number ≡ Some deps → w.entities ≡ length t.spec.entities → w.fences ≡ t.spec.max_jobs → All (λ (d : ℕ × ℕ). (d.0 < w.entities) × (d.1 < w.fences)) deps
deps_there t number r deps w whole at going at_deps entities fences =
    All-weaker (IsDependency t.journal.items number r.job) (λ (d : ℕ × ℕ). (d.0 < w.entities) × (d.1 < w.fences)) each deps (whole.waits.stand number r deps at going at_deps).of_jobs
  where
    each : (d : ℕ × ℕ) → IsDependency t.journal.items number r.job d → (d.0 < w.entities) × (d.1 < w.fences)
    each d is =
        let owner = entity_there t d.1 is.0 whole is.1 in
        let rows = length-map t.entities.rows marks_of in
        let count = whole.steady.lawful.entity_count in
        let lt = slice_get_within t.journal.items d.1 is.0 is.1 in
        let few = whole.count in
        let of_it = is.2 in
        (omega (arith, owner, rows, count, entities, of_it), omega (arith, lt, few, fences))

-- a head is put in its place
pub head_placed : (d : DeviceState) (waits : List (List (ℕ × ℕ))) (entity number : ℕ) (r : JobRecord) (deps : List (ℕ × ℕ)) (e : EntitySpec) (h n : Heads) → HeadsStandBut d waits entity h
    → is_stopped d entity ≡ false → first (queue_of entity d.journal) ≡ Some (number, r) → slice_get waits number ≡ Some deps → slice_get d.spec.entities entity ≡ Some e
    → r.ring < length d.spec.rings → entity < length d.spec.entities
    → n.queues.items ≡ with_key h.queues.items r.ring entity (Some (record { priority = e.priority; age = number }))
    → AreWatched n.waiters.pairs entity (unmet_pairs d.journal entity r.ring deps)
    → ((other : ℕ) (pairs : List Pair) → other ≢ entity → AreWatched h.waiters.pairs other pairs → AreWatched n.waiters.pairs other pairs)
    → n.waiters.entities ≡ h.waiters.entities → n.waiters.fences ≡ h.waiters.fences → HeadsStand d waits n
head_placed d waits entity number r deps e h n but going is at_waits at_spec there here queues watched others waiting fences =
    told_alike d.spec (put_key (but_key entity (head_key d)) r.ring entity (Some key)) (head_key d) (watched_of d waits) (watched_of d waits) n
    (key_put d.spec (but_key entity (head_key d)) (but_watched entity (watched_of d waits)) (watched_of d waits) h n r.ring entity (Some key) but there here queues pairs waiting fences)
    keys (λ x. refl)
  where
    key : Key
    key = record { priority = e.priority; age = number }

    pairs : (x : ℕ) → AreWatched n.waiters.pairs x (watched_of d waits x)
    pairs x =
        elim (cases_eq x entity) [
          | inl same ↦
              subst (λ y. AreWatched n.waiters.pairs y (watched_of d waits y)) (sym same)
              (subst (AreWatched n.waiters.pairs entity) (sym (watched_is d waits entity number r deps going is at_waits)) watched)
          | inr apart ↦
              others x (watched_of d waits x) apart
              (subst (AreWatched h.waiters.pairs x) (ap (λ b. cond b [] (watched_of d waits x)) (ne_eqb x entity apart)) (but.watches x))
        ]

    its : (ring : ℕ) → head_key d ring entity ≡ cond (r.ring == ring) (Some key) None
    its ring =
        own_key d entity ring number r going is
        ∙ ap (λ o. cond (r.ring == ring) (option_map (λ (x : EntitySpec). let k : Key = record { priority = x.priority; age = number } in k) o) None) at_spec

    keys : (ring x : ℕ) → head_key d ring x ≡ put_key (but_key entity (head_key d)) r.ring entity (Some key) ring x
    keys ring x =
        elim (cases_eq x entity) [
          | inl same ↦ elim (cases_eq ring r.ring) [
            | inl home ↦
                ap (head_key d ring) same
                ∙ (its ring ∙ (ap (λ b. cond b (Some key) None) (eq-eqb r.ring ring (sym home)) ∙ put_here (but_key entity (head_key d)) r.ring entity ring x (Some key) home same))
            | inr away ↦
                ap (head_key d ring) same
                ∙ (its ring
                ∙ (ap (λ b. cond b (Some key) None) (ne_eqb r.ring ring (λ i. away (sym i)))
                ∙ (sym (ap (λ b. cond b None (head_key d ring x)) (eq-eqb x entity same))
                ∙ sym (put_on_another (but_key entity (head_key d)) r.ring entity ring x (Some key) away))))
          ]
          | inr apart ↦
              sym (ap (λ b. cond b None (head_key d ring x)) (ne_eqb x entity apart))
              ∙ sym (put_elsewhere (but_key entity (head_key d)) r.ring entity ring x (Some key) apart)
        ]

-- an entity, whose head is of this ring, is taken out
pub head_removed : (spec : DeviceSpec) (key : ℕ → ℕ → Option Key) (watched : ℕ → List Pair) (h n : Heads) (ring entity : ℕ) → HeadsAre spec key watched h
    → ring < length spec.rings → entity < length spec.entities → ((other : ℕ) → other ≢ ring → key other entity ≡ None)
    → n.queues.items ≡ with_key h.queues.items ring entity None → n.waiters ≡ record h.waiters { pairs = without_entity h.waiters.pairs entity }
    → HeadsAre spec (but_key entity key) (but_watched entity watched) n
head_removed spec key watched h n ring entity are there here others queues waiters =
    told_alike spec (put_key key ring entity None) (but_key entity key) (but_watched entity watched) (but_watched entity watched) n
    (key_put spec key watched (but_watched entity watched) h n ring entity None are there here queues pairs
    (ap (λ (w : Waiting). w.entities) waiters) (ap (λ (w : Waiting). w.fences) waiters))
    keys (λ x. refl)
  where
    pairs : (x : ℕ) → AreWatched n.waiters.pairs x (but_watched entity watched x)
    pairs x =
        subst (λ ps. AreWatched ps x (but_watched entity watched x)) (sym (ap (λ (w : Waiting). w.pairs) waiters))
        (elim (cases_eq x entity) [
          | inl same ↦
              subst (AreWatched (without_entity h.waiters.pairs entity) x) (sym (ap (λ b. cond b [] (watched x)) (eq-eqb x entity same)))
              (subst (λ y. AreWatched (without_entity h.waiters.pairs entity) y []) (sym same) (forgotten h.waiters.pairs entity))
          | inr apart ↦
              subst (AreWatched (without_entity h.waiters.pairs entity) x) (sym (ap (λ b. cond b [] (watched x)) (ne_eqb x entity apart)))
              (kept_of h.waiters.pairs (watched x) entity x apart (are.watches x))
        ])

    keys : (r x : ℕ) → but_key entity key r x ≡ put_key key ring entity None r x
    keys r x =
        elim (cases_eq x entity) [
          | inl same ↦
              ap (λ b. cond b None (key r x)) (eq-eqb x entity same)
              ∙ (elim (cases_eq r ring) [
                | inl home ↦ put_here key ring entity r x None home same
                | inr away ↦ sym (put_on_another key ring entity r x None away ∙ (ap (key r) same ∙ others r away))
              ])
          | inr apart ↦ ap (λ b. cond b None (key r x)) (ne_eqb x entity apart) ∙ sym (put_elsewhere key ring entity r x None apart)
        ]

-- pairs are met
pub pairs_left : (spec : DeviceSpec) (key : ℕ → ℕ → Option Key) (watched : ℕ → List Pair) (h n : Heads) (left : Pair → Bool) → HeadsAre spec key watched h
    → n.queues.items ≡ h.queues.items → n.waiters ≡ record h.waiters { pairs = filter left h.waiters.pairs } → HeadsAre spec key (λ e. filter left (watched e)) n
pairs_left spec key watched h n left are queues waiters = record {
  rings = ap length queues ∙ are.rings;
  entities = λ ring ks at. are.entities ring ks (subst (λ qs. slice_get qs ring ≡ Some ks) queues at);
  keys = λ ring e ks k at. are.keys ring e ks k (subst (λ qs. slice_get qs ring ≡ Some ks) queues at);
  watches = λ e.
      subst (λ ps. AreWatched ps e (filter left (watched e))) (sym (ap (λ (w : Waiting). w.pairs) waiters)) (left_of h.waiters.pairs (watched e) left e (are.watches e));
  waiting = ap (λ (w : Waiting). w.entities) waiters ∙ are.waiting;
  fences = ap (λ (w : Waiting). w.fences) waiters ∙ are.fences;
}

-- the front of an entity's queue, as it is read
pub front_found : (t : Table) (entity number : ℕ) → IsWhole t → entity < length t.spec.entities → first (queue_at t.entities entity) ≡ Some number
    → (r : JobRecord) × IsFront t.journal.items entity number r
front_found t entity number whole there is =
    front_is t.journal.items entity number (sym (head_is_first t.journal.items t.entities entity whole.queues (entity_row_there t entity whole there)) ∙ is)

pub no_front : (t : Table) (entity : ℕ) → IsWhole t → entity < length t.spec.entities → first (queue_at t.entities entity) ≡ None → first (queue_of entity t.journal.items) ≡ None
no_front t entity whole there is =
    by_first (first (queue_of entity t.journal.items)) (sym (head_is_first t.journal.items t.entities entity whole.queues (entity_row_there t entity whole there)) ∙ is)
  where
    by_first : (o : Option (ℕ × JobRecord)) → option_map (λ (n : ℕ × JobRecord). n.0) o ≡ None → o ≡ None
    by_first None none = refl
    by_first (Some n) some = absurd (cc (some))

-- a record that was read stands there
pub its_record : (js : List JobRecord) (i : ℕ) (x r : JobRecord) → x ≡ get_or js i x → slice_get js i ≡ Some r → x ≡ r
its_record js i x r read at = let there = at_index js i x read (slice_get_within js i r at) in cc (there, at)

-- the dependencies of a job
pub deps_of : (t : Table) (number : ℕ) (r : JobRecord) → IsWhole t → slice_get t.journal.items number ≡ Some r → (deps : List (ℕ × ℕ)) × (slice_get t.waits.lists number ≡ Some deps)
deps_of t number r whole at =
    stands_within t.waits.lists number (let lt = slice_get_within t.journal.items number r at in let count = whole.waits.count in omega (arith, lt, count))

pub read_deps : (waits : List (List (ℕ × ℕ))) (i : ℕ) (x deps : List (ℕ × ℕ)) → slice_get waits i ≡ Some x → slice_get waits i ≡ Some deps → x ≡ deps
read_deps waits i x deps read at = cc (read, at)

-- a ring's run queue has room for the entity
pub keys_room : (d : DeviceState) (waits : List (List (ℕ × ℕ))) (h : Heads) (ring entity : ℕ) → HeadsStand d waits h → ring < length d.spec.rings → entity < length d.spec.entities
    → (ring < length h.queues.items) × (entity < length (keys_at h.queues.items ring))
keys_room d waits h ring entity stand there here =
    let rings = stand.rings in
    let lt : ring < length h.queues.items = omega (arith, there, rings) in
    let count = stand.entities ring (keys_at h.queues.items ring) (keys_there h ring lt) in
    (lt, omega (arith, here, count))

-- the head of an entity has a key on its own ring alone
pub on_no_other : (d : DeviceState) (entity other number : ℕ) (r : JobRecord) → first (queue_of entity d.journal) ≡ Some (number, r) → other ≢ r.ring → head_key d other entity ≡ None
on_no_other d entity other number r is away =
    elim (cases_Bool (is_stopped d entity)) [
      | inl stopped ↦ stopped_key d entity other stopped
      | inr going ↦
          own_key d entity other number r going is
          ∙ ap (λ b. cond b (key_of d.spec entity number) None) (ne_eqb r.ring other (λ i. away (sym i)))
    ]
