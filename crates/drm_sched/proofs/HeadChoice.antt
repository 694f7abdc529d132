-- The first entity of a ring's run queue whose head waits for nothing has the job that the ring takes next.
use Rattle.std.proofs.Common.{◌≡◌, ℕ, suc, ◌<◌, Bool, true, false, cond, not, ◌&&◌, ◌||◌, ◌==◌, List, [], ◌∷◌, length, map, Some, None, Option, refl, sym, ap, subst, ◌∙◌, arith, slice_get, nat_lt}
use Rattle.std.specs.Prelude.{option_map, filter}
use Rattle.std.specs.Option.{option_map_or}
use Rattle.std.specs.List.{list_all}
use Rattle.std.proofs.lemmas.Bool.{and_parts, and_from, eqb-true, eq-eqb, ne_eqb}
use Rattle.std.proofs.lemmas.Option.{slice_get_within}
use Rattle.drm_lists.proofs.Places.{stands_within}
use Rattle.drm_types.specs.declared.spec.EntitySpec.{EntitySpec}
use Rattle.drm_types.specs.Firsts.{first}
use Rattle.drm_types.specs.Priorities.{rank_of}
use Rattle.drm_fence.specs.declared.pair.Pair.{Pair}
use Rattle.drm_fence.specs.Waiting.{unmet_in}
use Rattle.drm_runq.specs.declared.key.Key.{Key}
use Rattle.drm_runq.specs.Keys.{HasKey, comes_before}
use Rattle.drm_runq.specs.Keys as keys
use Rattle.drm_sched.specs.declared.heads.Heads.{Heads}
use Rattle.drm_state.specs.declared.journal.JobRecord.{JobRecord}
use Rattle.drm_sched.specs.Candidates.{IsHeadCandidate}
use Rattle.drm_state.specs.Choice.{queue_of, choice}
use Rattle.drm_sched.specs.Heads.{keys_at, key_of, head_key, HeadsStand}
use Rattle.drm_state.specs.Journal.{is_at}
use Rattle.drm_state.specs.Order.{is_met, is_ready}
use Rattle.drm_table.specs.Plain.{WaitsStand}
use Rattle.drm_state.specs.Ring.{is_stopped}
use Rattle.drm_state.specs.State.{EntityState, DeviceState}
use Rattle.drm_state.specs.Steady.{IsSteady}
use Rattle.drm_sched.specs.Watching.{pair_of, unmet_pairs, watched_of}
use Rattle.drm_table.proofs.Candidates.{head_number, ready_by_waits}
use Rattle.drm_sched.proofs.ChoiceByKeys.{IsFirstReady, AnswersReady, choice_is_first, choice_is_none}
use Rattle.drm_table.proofs.Queues.{IsFront, front_is, head_numbered}
use Rattle.drm_sched.proofs.Watching.{unmet_is}

-- an answer whether the entity's head waits for nothing
abbrev pub Unmet : List Pair → ℕ → Bool → Type 0
Unmet pairs entity ready = ready ≡ (unmet_in pairs entity == 0)

-- the first of the queue of an entity
pub first_is : (journal : List JobRecord) (entity : ℕ) (n : ℕ × JobRecord) → first (queue_of entity journal) ≡ Some n → IsFront journal entity n.0 n.1
first_is journal entity n is =
    let front = front_is journal entity n.0 (ap (option_map (λ (m : ℕ × JobRecord). m.0)) is) in
    let pair = sym is ∙ front.1.first in
    let same : n.1 ≡ front.0 = cc (pair) in
    subst (IsFront journal entity n.0) (sym same) front.1

-- whether an entity is stopped, where it is there
not_stopped : (o : Option EntityState) → option_map_or (λ (e : EntityState). not e.is_stopped) o false ≡ true → option_map_or (λ (e : EntityState). e.is_stopped) o false ≡ false
not_stopped None is = refl
not_stopped (Some e) is = by_case e.is_stopped is
  where
    by_case : (b : Bool) → not b ≡ true → b ≡ false
    by_case true never = sym never
    by_case false may = refl

may_go : (o : Option EntityState) (s : EntityState) → o ≡ Some s → option_map_or (λ (e : EntityState). e.is_stopped) o false ≡ false → option_map_or (λ (e : EntityState). not e.is_stopped) o false ≡ true
may_go None s at is = absurd (cc (at))
may_go (Some e) s at is = ap not is

-- a key is that of a head
key_candidate : (d : DeviceState) (ring entity : ℕ) (key : Key) → length d.entities ≡ length d.spec.entities → Some key ≡ head_key d ring entity
    → IsHeadCandidate d ring entity (record { priority = key.priority; age = key.age })
key_candidate d ring entity key count is = by_stopped (is_stopped d entity) refl (sym is)
  where
    of_ring : Bool → ℕ → Option Key
    of_ring b number = cond b (key_of d.spec entity number) None

    by_entity : (n : ℕ × JobRecord) → first (queue_of entity d.journal) ≡ Some n → is_stopped d entity ≡ false → (n.1.ring == ring) ≡ true
        → (o : Option EntitySpec) → slice_get d.spec.entities entity ≡ o → option_map (λ (e : EntitySpec). let k : Key = record { priority = e.priority; age = n.0 } in k) o ≡ Some key
        → IsHeadCandidate d ring entity (record { priority = key.priority; age = key.age })
    by_entity n is_n going here None at some = absurd (cc (some))
    by_entity n is_n going here (Some e) at some =
        let same : Some (record { priority = e.priority; age = n.0 }) ≡ Some key = some in
        let key_is : record { priority = e.priority; age = n.0 } ≡ key = cc (same) in
        let front = first_is d.journal entity n is_n in
        let lt = slice_get_within d.spec.entities entity e at in
        let s = stands_within d.entities entity (omega (arith, lt, count)) in
        let c : IsHeadCandidate d ring entity (record { priority = e.priority; age = n.0 }) = record {
          head = n.1;
          at = front.at;
          of_entity = front.of_entity;
          on_ring = here;
          may = and_from
              (option_map_or (λ (x : EntitySpec). rank_of x.priority == rank_of e.priority) (slice_get d.spec.entities entity) false)
              (option_map_or (λ (x : EntityState). not x.is_stopped) (slice_get d.entities entity) false)
              (ap (λ o. option_map_or (λ (x : EntitySpec). rank_of x.priority == rank_of e.priority) o false) at ∙ eq-eqb (rank_of e.priority) (rank_of e.priority) refl)
              (may_go (slice_get d.entities entity) s.0 s.1 going);
          is_head = ap (λ o. option_map_or (λ (m : ℕ × JobRecord). m.0 == n.0) o false) is_n ∙ eq-eqb n.0 n.0 refl;
        } in
        subst (λ (k : Key). IsHeadCandidate d ring entity (record { priority = k.priority; age = k.age })) key_is c

    by_ring : (n : ℕ × JobRecord) → first (queue_of entity d.journal) ≡ Some n → is_stopped d entity ≡ false → (b : Bool) → (n.1.ring == ring) ≡ b → of_ring b n.0 ≡ Some key
        → IsHeadCandidate d ring entity (record { priority = key.priority; age = key.age })
    by_ring n is_n going true here some = by_entity n is_n going here (slice_get d.spec.entities entity) refl some
    by_ring n is_n going false here some = absurd (let never : None ≡ Some key = some in cc (never))

    by_first : is_stopped d entity ≡ false → (o : Option (ℕ × JobRecord)) → first (queue_of entity d.journal) ≡ o
        → option_map_or (λ (n : ℕ × JobRecord). of_ring (n.1.ring == ring) n.0) o None ≡ Some key → IsHeadCandidate d ring entity (record { priority = key.priority; age = key.age })
    by_first going None is_n some = absurd (cc (some))
    by_first going (Some n) is_n some = by_ring n is_n going (n.1.ring == ring) refl some

    by_stopped : (b : Bool) → is_stopped d entity ≡ b → cond b None (option_map_or (λ (n : ℕ × JobRecord). of_ring (n.1.ring == ring) n.0) (first (queue_of entity d.journal)) None) ≡ Some key
        → IsHeadCandidate d ring entity (record { priority = key.priority; age = key.age })
    by_stopped true stopped some = absurd (let never : None ≡ Some key = some in cc (never))
    by_stopped false going some = by_first going (first (queue_of entity d.journal)) refl some

-- and the head of a candidate has a key
pub record HasHeadKey (d : DeviceState) (ring entity : ℕ) (k : Key) : Type 0 where
  pub spec : EntitySpec
  pub at : slice_get d.spec.entities entity ≡ Some spec
  pub rank : rank_of spec.priority ≡ rank_of k.priority
  pub going : is_stopped d entity ≡ false
  pub head : JobRecord
  pub front : IsFront d.journal entity k.age head
  pub on_ring : head.ring ≡ ring
  pub key : head_key d ring entity ≡ Some (record { priority = spec.priority; age = k.age })

candidate_key : (d : DeviceState) (ring entity : ℕ) (k : Key) → IsHeadCandidate d ring entity k → HasHeadKey d ring entity k
candidate_key d ring entity k c =
    let parts = and_parts (option_map_or (λ (x : EntitySpec). rank_of x.priority == rank_of k.priority) (slice_get d.spec.entities entity) false)
    (option_map_or (λ (x : EntityState). not x.is_stopped) (slice_get d.entities entity) false) c.may in
    let spec = its_spec (slice_get d.spec.entities entity) parts.0 in
    let front = front_is d.journal entity k.age (head_numbered d.journal entity k.age c.is_head) in
    let at_head = front.1.at in
    let same : c.head ≡ front.0 = let at = c.at in cc (at, at_head) in
    let going = not_stopped (slice_get d.entities entity) parts.1 in
    let on_ring : (front.0.ring == ring) ≡ true = subst (λ (r : JobRecord). (r.ring == ring) ≡ true) same c.on_ring in
    record {
      spec = spec.0;
      at = spec.1;
      rank = spec.2;
      going = going;
      head = front.0;
      front = front.1;
      on_ring = eqb-true front.0.ring ring on_ring;
      key = ap (λ b. cond b None (option_map_or (λ (n : ℕ × JobRecord). cond (n.1.ring == ring) (key_of d.spec entity n.0) None) (first (queue_of entity d.journal)) None)) going
          ∙ (ap (λ o. option_map_or (λ (n : ℕ × JobRecord). cond (n.1.ring == ring) (key_of d.spec entity n.0) None) o None) front.1.first
          ∙ (ap (λ b. cond b (key_of d.spec entity k.age) None) on_ring
          ∙ ap (option_map (λ (e : EntitySpec). let x : Key = record { priority = e.priority; age = k.age } in x)) spec.1));
    }
  where
    its_spec : (o : Option EntitySpec) → option_map_or (λ (x : EntitySpec). rank_of x.priority == rank_of k.priority) o false ≡ true
        → (e : EntitySpec) × (o ≡ Some e) × (rank_of e.priority ≡ rank_of k.priority)
    its_spec None is = absurd (let never : false ≡ true = is in cc (never))
    its_spec (Some e) is = (e, refl, eqb-true (rank_of e.priority) (rank_of k.priority) is)

-- nothing is left of dependencies that are all met
none_unmet : (js : List JobRecord) (entity ring : ℕ) (deps : List (ℕ × ℕ)) → (length (unmet_pairs js entity ring deps) == 0) ≡ list_all (λ e. is_at js e.1 (is_met ring)) deps
none_unmet js entity ring [] = refl
none_unmet js entity ring (d ∷ deps) = in_front (is_at js d.1 (is_met ring)) (none_unmet js entity ring deps)
  where
    in_front : (b : Bool) → (length (unmet_pairs js entity ring deps) == 0) ≡ list_all (λ e. is_at js e.1 (is_met ring)) deps
        → (length (map (pair_of js entity ring) (cond (not b) (d ∷ filter (λ (x : ℕ × ℕ). not (is_at js x.1 (is_met ring))) deps) (filter (λ (x : ℕ × ℕ). not (is_at js x.1 (is_met ring))) deps))) == 0)
        ≡ (b && list_all (λ e. is_at js e.1 (is_met ring)) deps)
    in_front true rest = rest
    in_front false rest =
        let more = filter (λ (x : ℕ × ℕ). not (is_at js x.1 (is_met ring))) deps in
        ne_eqb (suc (length (map (pair_of js entity ring) more))) 0 (λ is. omega (arith, is))

-- what the head of an entity that is not stopped waits for
pub watched_is : (d : DeviceState) (waits : List (List (ℕ × ℕ))) (entity number : ℕ) (r : JobRecord) (deps : List (ℕ × ℕ)) → is_stopped d entity ≡ false
    → first (queue_of entity d.journal) ≡ Some (number, r) → slice_get waits number ≡ Some deps → watched_of d waits entity ≡ unmet_pairs d.journal entity r.ring deps
watched_is d waits entity number r deps going is at =
    ap (λ b. cond b [] (option_map_or (λ (n : ℕ × JobRecord). unmet_pairs d.journal entity n.1.ring (option_map_or (λ ds. ds) (slice_get waits n.0) [])) (first (queue_of entity d.journal)) [])) going
    ∙ (ap (λ o. option_map_or (λ (n : ℕ × JobRecord). unmet_pairs d.journal entity n.1.ring (option_map_or (λ ds. ds) (slice_get waits n.0) [])) o []) is
    ∙ ap (λ o. unmet_pairs d.journal entity r.ring (option_map_or (λ ds. ds) o [])) at)

-- the number of pairs says whether a head is ready
answers : (d : DeviceState) (waits : List (List (ℕ × ℕ))) (h : Heads) (ring : ℕ) → IsSteady d → WaitsStand d.journal waits → HeadsStand d waits h
    → AnswersReady d ring (Unmet h.waiters.pairs)
answers d waits h ring steady stand heads entity key r b c at is =
    let k = candidate_key d ring entity key c in
    let at_head = k.front.at in
    let same : r ≡ k.head = cc (at, at_head) in
    let deps = stands_within waits key.age (let lt = slice_get_within d.journal key.age r at in let count = stand.count in omega (arith, lt, count)) in
    let unmet : (unmet_in h.waiters.pairs entity == 0) ≡ list_all (λ e. is_at d.journal e.1 (is_met k.head.ring)) deps.0 =
    ap (λ n. n == 0) (unmet_is h.waiters.pairs (watched_of d waits entity) entity (heads.watches entity)
    ∙ ap length (watched_is d waits entity key.age k.head deps.0 k.going k.front.first deps.1))
    ∙ none_unmet d.journal entity k.head.ring deps.0 in
    ap (is_ready d.journal key.age) same
    ∙ (ready_by_waits d d.journal waits k.head.ring entity key.age k.head deps.0 steady refl stand
    (record { found = ap (option_map (λ (n : ℕ × JobRecord). n.0)) k.front.first; at = k.front.at }) deps.1 refl
    ∙ sym (is ∙ unmet))

-- the keys of a ring that is there
pub keys_there : (h : Heads) (ring : ℕ) → ring < length h.queues.items → slice_get h.queues.items ring ≡ Some (keys_at h.queues.items ring)
keys_there h ring lt =
    let at = stands_within h.queues.items ring lt in
    at.1 ∙ ap (λ o. Some (option_map_or (λ ks. ks) o [])) (sym at.1)

-- a head that goes first has a key that comes before
key_before : (d : DeviceState) (waits : List (List (ℕ × ℕ))) (h : Heads) (ring other : ℕ) (k : Key) → HeadsStand d waits h → ring < length d.spec.rings
    → IsHeadCandidate d ring other k → (key : Key) × HasKey (keys_at h.queues.items ring) other key × (rank_of key.priority ≡ rank_of k.priority) × (key.age ≡ k.age)
key_before d waits h ring other k heads there c =
    let has = candidate_key d ring other k c in
    let rings = heads.rings in
    let at_ring = keys_there h ring (omega (arith, there, rings)) in
    let lt = slice_get_within d.spec.entities other has.spec has.at in
    let count = heads.entities ring (keys_at h.queues.items ring) at_ring in
    let at = stands_within (keys_at h.queues.items ring) other (omega (arith, lt, count)) in
    let key : Key = record { priority = has.spec.priority; age = k.age } in
    (key, at.1 ∙ ap (λ o. Some o) (heads.keys ring other (keys_at h.queues.items ring) at.0 at_ring at.1 ∙ has.key), has.rank, refl)

-- the candidate of a key
candidate_of_key : (d : DeviceState) (waits : List (List (ℕ × ℕ))) (h : Heads) (ring entity : ℕ) (key : Key) → IsSteady d → HeadsStand d waits h → ring < length d.spec.rings
    → HasKey (keys_at h.queues.items ring) entity key → IsHeadCandidate d ring entity (record { priority = key.priority; age = key.age })
candidate_of_key d waits h ring entity key steady heads there has =
    let rings = heads.rings in
    key_candidate d ring entity key steady.lawful.entity_count (heads.keys ring entity (keys_at h.queues.items ring) (Some key) (keys_there h ring (omega (arith, there, rings))) has)

pub choice_found : (d : DeviceState) (waits : List (List (ℕ × ℕ))) (h : Heads) (ring entity : ℕ) → IsSteady d → WaitsStand d.journal waits → HeadsStand d waits h
    → ring < length d.spec.rings → keys.IsFirstReady (Unmet h.waiters.pairs) (keys_at h.queues.items ring) entity
    → (choice d ring ≡ head_number d.journal entity) × (entity < length d.spec.entities)
choice_found d waits h ring entity steady stand heads there is =
    let c = candidate_of_key d waits h ring entity is.key steady heads there is.has_key in
    let k : Key = record { priority = is.key.priority; age = is.key.age } in
    let found : IsFirstReady (Unmet h.waiters.pairs) d ring entity = record {
      key = k;
      has_key = c;
      ready = is.ready;
      others = λ other x has before.
          let y = key_before d waits h ring other x heads there has in
          is.others other y.0 y.1
          (ap (λ n. nat_lt n (rank_of is.key.priority) || ((n == rank_of is.key.priority) && nat_lt y.0.age is.key.age)) y.2
          ∙ (ap (λ n. nat_lt (rank_of x.priority) (rank_of is.key.priority) || ((rank_of x.priority == rank_of is.key.priority) && nat_lt n is.key.age)) y.3 ∙ before));
    } in
    let own = candidate_key d ring entity k c in (
      choice_is_first d ring (Unmet h.waiters.pairs) entity (answers d waits h ring steady stand heads) found
          ∙ sym (ap (option_map (λ (n : ℕ × JobRecord). n.0)) own.front.first),
      slice_get_within d.spec.entities entity own.spec own.at,
    )

pub choice_missing : (d : DeviceState) (waits : List (List (ℕ × ℕ))) (h : Heads) (ring : ℕ) → IsSteady d → WaitsStand d.journal waits → HeadsStand d waits h
    → ring < length d.spec.rings → keys.NoneReady (Unmet h.waiters.pairs) (keys_at h.queues.items ring) → choice d ring ≡ None
choice_missing d waits h ring steady stand heads there none =
    choice_is_none d ring (Unmet h.waiters.pairs) (answers d waits h ring steady stand heads)
    (λ other k has. let y = key_before d waits h ring other k heads there has in none other y.0 y.1)
