-- The heads of the queues after an arming, and after a cancel.
use Rattle.std.proofs.Common.{◌≡◌, ◌≢◌, ℕ, suc, ◌+◌, ◌<◌, Bool, true, false, cond, not, ◌&&◌, ◌==◌, List, [], ◌∷◌, ◌++◌, length, set, map, Some, None, Option, refl, sym, ap, subst, ◌∙◌, inl, inr, arith, slice_get}
use Rattle.std.specs.Option.{option_map_or}
use Rattle.std.specs.List.{filter, enumerate_from}
use Rattle.std.proofs.lemmas.Bool.{cases_eq, ne_eqb, eq-eqb}
use Rattle.std.proofs.lemmas.List.Elements.{All-contains}
use Rattle.std.proofs.lemmas.Option.{slice_get_within}
use Rattle.drm_lists.proofs.Places.{stands_within, contains_at, get_before_push}
use Rattle.drm_lists.proofs.Changed.{get_set_same, get_set_other}
use Rattle.drm_types.specs.declared.spec.DeviceSpec.{DeviceSpec}
use Rattle.drm_types.specs.Firsts.{first}
use Rattle.drm_job.specs.declared.Draft.{Draft}
use Rattle.drm_fence.specs.declared.pair.Pair.{Pair}
use Rattle.drm_sched.specs.declared.heads.Heads.{Heads}
use Rattle.drm_state.specs.declared.journal.JobRecord.{JobRecord}
use Rattle.drm_state.specs.Arming.{armed_device, new_record}
use Rattle.drm_state.specs.Choice.{queue_of}
use Rattle.drm_sched.specs.Heads.{head_key, key_of, HeadsAre, HeadsStand, HeadsStandBut}
use Rattle.drm_state.specs.Journal.{is_at}
use Rattle.drm_state.specs.Order.{is_met}
use Rattle.drm_state.specs.Outcomes.{cancelled_device}
use Rattle.drm_table.specs.Plain.{WaitsStand}
use Rattle.drm_state.specs.Ring.{is_stopped, entity_changed}
use Rattle.drm_state.specs.State.{EntityState, DeviceState}
use Rattle.drm_state.specs.Waits.{IsDependency}
use Rattle.drm_sched.specs.Watching.{pair_of, unmet_pairs, watched_of}
use Rattle.drm_table.proofs.Candidates.{queued_goes_on}
use Rattle.drm_sched.proofs.HeadChoice.{first_is}
use Rattle.drm_sched.proofs.HeadsKept.{told_alike, but_key, but_watched, no_head_stands, stopped_key, stopped_watched, empty_key, empty_watched}
use Rattle.drm_sched.proofs.HeadsLeft.{LeavesHead, heads_alike, same_heads_itself, left_key, left_watched, keep_all}
use Rattle.drm_table.proofs.Queues.{waits_in}

-- an entity without a head may be left out
pub stand_but : (d : DeviceState) (waits : List (List (ℕ × ℕ))) (entity : ℕ) (h : Heads) → HeadsStand d waits h
    → ((ring : ℕ) → head_key d ring entity ≡ None) → watched_of d waits entity ≡ [] → HeadsStandBut d waits entity h
stand_but d waits entity h stand none nothing =
    told_alike d.spec (head_key d) (but_key entity (head_key d)) (watched_of d waits) (but_watched entity (watched_of d waits)) h stand
    (λ ring e. by_key ring e) (λ e. by_pairs e)
  where
    by_key : (ring e : ℕ) → but_key entity (head_key d) ring e ≡ head_key d ring e
    by_key ring e =
        elim (cases_eq e entity) [
          | inl same ↦ ap (λ b. cond b None (head_key d ring e)) (eq-eqb e entity same) ∙ sym (ap (head_key d ring) same ∙ none ring)
          | inr apart ↦ ap (λ b. cond b None (head_key d ring e)) (ne_eqb e entity apart)
        ]

    by_pairs : (e : ℕ) → but_watched entity (watched_of d waits) e ≡ watched_of d waits e
    by_pairs e =
        elim (cases_eq e entity) [
          | inl same ↦ ap (λ b. cond b [] (watched_of d waits e)) (eq-eqb e entity same) ∙ sym (ap (watched_of d waits) same ∙ nothing)
          | inr apart ↦ ap (λ b. cond b [] (watched_of d waits e)) (ne_eqb e entity apart)
        ]

-- where the others are told alike, so are all but one
but_alike : (d n : DeviceState) (waits new_waits : List (List (ℕ × ℕ))) (entity : ℕ) (h : Heads) → n.spec ≡ d.spec → HeadsStandBut d waits entity h
    → ((ring e : ℕ) → e ≢ entity → head_key n ring e ≡ head_key d ring e) → ((e : ℕ) → e ≢ entity → watched_of n new_waits e ≡ watched_of d waits e)
    → HeadsStandBut n new_waits entity h
but_alike d n waits new_waits entity h spec but keys pairs =
    subst (λ (s : DeviceSpec). HeadsAre s (but_key entity (head_key n)) (but_watched entity (watched_of n new_waits)) h) (sym spec)
    (told_alike d.spec (but_key entity (head_key d)) (but_key entity (head_key n)) (but_watched entity (watched_of d waits)) (but_watched entity (watched_of n new_waits)) h but by_key by_pairs)
  where
    by_key : (ring e : ℕ) → but_key entity (head_key n) ring e ≡ but_key entity (head_key d) ring e
    by_key ring e =
        elim (cases_eq e entity) [
          | inl same ↦ ap (λ b. cond b None (head_key n ring e)) (eq-eqb e entity same) ∙ sym (ap (λ b. cond b None (head_key d ring e)) (eq-eqb e entity same))
          | inr apart ↦ ap (λ k. cond (e == entity) None k) (keys ring e apart)
        ]

    by_pairs : (e : ℕ) → but_watched entity (watched_of n new_waits) e ≡ but_watched entity (watched_of d waits) e
    by_pairs e =
        elim (cases_eq e entity) [
          | inl same ↦ ap (λ b. cond b [] (watched_of n new_waits e)) (eq-eqb e entity same) ∙ sym (ap (λ b. cond b [] (watched_of d waits e)) (eq-eqb e entity same))
          | inr apart ↦ ap (λ ps. cond (e == entity) [] ps) (pairs e apart)
        ]

-- ---- a cancel

stopped_other : (entities : List EntityState) (entity e : ℕ) → e ≢ entity
    → option_map_or (λ (s : EntityState). s.is_stopped) (slice_get (entity_changed entities entity (λ s. record s { is_stopped = true })) e) false
    ≡ option_map_or (λ (s : EntityState). s.is_stopped) (slice_get entities e) false
stopped_other entities entity e apart =
    elim (slice_get entities entity) as (λ o. option_map_or (λ (s : EntityState). s.is_stopped) (slice_get (option_map_or (λ s. set entities entity (record s { is_stopped = true })) o entities) e) false
    ≡ option_map_or (λ (s : EntityState). s.is_stopped) (slice_get entities e) false) [
      | None ↦ refl
      | Some s ↦ ap (λ o. option_map_or (λ (x : EntityState). x.is_stopped) o false) (get_set_other entities entity e (record s { is_stopped = true }) apart)
    ]

stopped_here : (entities : List EntityState) (entity : ℕ) → entity < length entities
    → option_map_or (λ (s : EntityState). s.is_stopped) (slice_get (entity_changed entities entity (λ s. record s { is_stopped = true })) entity) false ≡ true
stopped_here entities entity lt =
    let at = stands_within entities entity lt in
    let new : EntityState = record at.0 { is_stopped = true } in
    ap (λ o. option_map_or (λ (s : EntityState). s.is_stopped) (slice_get (option_map_or (λ s. set entities entity (record s { is_stopped = true })) o entities) entity) false) at.1
    ∙ ap (λ o. option_map_or (λ (s : EntityState). s.is_stopped) o false) (get_set_same entities entity at.0 new at.1)

pub cancel_stand : (d : DeviceState) (waits : List (List (ℕ × ℕ))) (entity : ℕ) (h : Heads) → entity < length d.entities → HeadsStandBut d waits entity h
    → HeadsStand (cancelled_device d entity) waits h
cancel_stand d waits entity h lt but =
    let n = cancelled_device d entity in
    let leaves : (e : ℕ) → e ≢ entity → LeavesHead d n (λ ring k. false) e = λ e apart. heads_alike d n e refl (stopped_other d.entities entity e apart) (same_heads_itself d.journal) in
    let stopped : is_stopped n entity ≡ true = stopped_here d.entities entity lt in
    no_head_stands n waits entity h
    (but_alike d n waits waits entity h refl but (λ ring e apart. left_key d n (λ ring k. false) e ring (leaves e apart))
    (λ e apart. left_watched d n waits (λ ring k. false) e (λ p. true) (leaves e apart) (λ ring dep. refl) ∙ keep_all (watched_of d waits e)))
    (λ ring. stopped_key n entity ring stopped) (stopped_watched n waits entity stopped)

-- ---- an arming

push_queue : (entity k : ℕ) (js : List JobRecord) (new : JobRecord) → waits_in entity new ≡ false
    → filter (λ (n : ℕ × JobRecord). waits_in entity n.1) (enumerate_from k (js ++ new ∷ [])) ≡ filter (λ (n : ℕ × JobRecord). waits_in entity n.1) (enumerate_from k js)
push_queue entity k [] new out = ap (λ b. cond b ((k, new) ∷ []) []) out
push_queue entity k (x ∷ xs) new out = ap (λ rest. cond (waits_in entity x) ((k, x) ∷ rest) rest) (push_queue entity (k + 1) xs new out)

push_first : (entity k : ℕ) (js : List JobRecord) (new : JobRecord) (m : ℕ × JobRecord) → first (filter (λ (n : ℕ × JobRecord). waits_in entity n.1) (enumerate_from k js)) ≡ Some m
    → first (filter (λ (n : ℕ × JobRecord). waits_in entity n.1) (enumerate_from k (js ++ new ∷ []))) ≡ Some m
push_first entity k [] new m is = absurd (cc (is))
push_first entity k (x ∷ xs) new m is = by_case (waits_in entity x) is (push_first entity (k + 1) xs new m)
  where
    olds : List (ℕ × JobRecord)
    olds = filter (λ (n : ℕ × JobRecord). waits_in entity n.1) (enumerate_from (k + 1) xs)

    news : List (ℕ × JobRecord)
    news = filter (λ (n : ℕ × JobRecord). waits_in entity n.1) (enumerate_from (k + 1) (xs ++ new ∷ []))

    by_case : (b : Bool) → first (cond b ((k, x) ∷ olds) olds) ≡ Some m → (first olds ≡ Some m → first news ≡ Some m) → first (cond b ((k, x) ∷ news) news) ≡ Some m
    by_case true here rest = here
    by_case false there rest = rest there

-- what is said of records that were there
push_at : (js : List JobRecord) (new : JobRecord) (k : ℕ) (test : JobRecord → Bool) → k < length js → is_at (js ++ new ∷ []) k test ≡ is_at js k test
push_at js new k test lt =
    let x = stands_within js k lt in
    ap (λ o. option_map_or test o false) (get_before_push js new k x.0 x.1) ∙ sym (ap (λ o. option_map_or test o false) x.1)

push_unmet : (js : List JobRecord) (new : JobRecord) (entity ring : ℕ) (deps : List (ℕ × ℕ)) → ((k : ℕ) (x : ℕ × ℕ) → slice_get deps k ≡ Some x → x.1 < length js)
    → unmet_pairs (js ++ new ∷ []) entity ring deps ≡ unmet_pairs js entity ring deps
push_unmet js new entity ring [] below = refl
push_unmet js new entity ring (dep ∷ deps) below =
    ap (λ b. map (pair_of (js ++ new ∷ []) entity ring) (cond (not b) (dep ∷ news) news)) (push_at js new dep.1 (is_met ring) (below 0 dep refl))
    ∙ in_front (is_at js dep.1 (is_met ring)) (push_unmet js new entity ring deps (λ k x at. below (suc k) x at))
  where
    news : List (ℕ × ℕ)
    news = filter (λ (x : ℕ × ℕ). not (is_at (js ++ new ∷ []) x.1 (is_met ring))) deps

    olds : List (ℕ × ℕ)
    olds = filter (λ (x : ℕ × ℕ). not (is_at js x.1 (is_met ring))) deps

    in_front : (b : Bool) → unmet_pairs (js ++ new ∷ []) entity ring deps ≡ unmet_pairs js entity ring deps
        → map (pair_of (js ++ new ∷ []) entity ring) (cond (not b) (dep ∷ news) news) ≡ map (pair_of js entity ring) (cond (not b) (dep ∷ olds) olds)
    in_front true rest = rest
    in_front false rest =
        ap (λ b. let p : Pair = record { entity = entity; fence = dep.1; of = dep.0; is_early = b } in p ∷ unmet_pairs (js ++ new ∷ []) entity ring deps)
        (push_at js new dep.1 (λ r. r.ring == ring) (below 0 dep refl))
        ∙ ap (λ ps. pair_of js entity ring dep ∷ ps) rest

get_front : {X : Type 0} (xs : List X) (y : X) (k : ℕ) → k < length xs → slice_get (xs ++ y ∷ []) k ≡ slice_get xs k
get_front xs y k lt = let x = stands_within xs k lt in get_before_push xs y k x.0 x.1 ∙ sym x.1

-- the head of an entity that keeps its first job
pub record KeepsFirst (d : DeviceState) (job : Draft) (entity : ℕ) : Type 0 where
  pub first : first (queue_of entity (armed_device d job).journal) ≡ first (queue_of entity d.journal)

pub keeps_other : (d : DeviceState) (job : Draft) (entity : ℕ) → entity ≢ job.entity → KeepsFirst d job entity
keeps_other d job entity apart = record {
  first = ap first (push_queue entity 0 d.journal (new_record d job) (ap (λ b. b && true) (ne_eqb job.entity entity (λ i. apart (sym i)))));
}

pub keeps_some : (d : DeviceState) (job : Draft) (entity : ℕ) (m : ℕ × JobRecord) → first (queue_of entity d.journal) ≡ Some m → KeepsFirst d job entity
keeps_some d job entity m is = record { first = push_first entity 0 d.journal (new_record d job) m is ∙ sym is }

armed_key : (d : DeviceState) (job : Draft) (entity ring : ℕ) → KeepsFirst d job entity → head_key (armed_device d job) ring entity ≡ head_key d ring entity
armed_key d job entity ring keeps =
    ap (λ o. cond (is_stopped d entity) None (option_map_or (λ (n : ℕ × JobRecord). cond (n.1.ring == ring) (key_of d.spec entity n.0) None) o None)) keeps.first

armed_watched : (d : DeviceState) (job : Draft) (waits : List (List (ℕ × ℕ))) (deps : List (ℕ × ℕ)) (entity : ℕ) → WaitsStand d.journal waits → KeepsFirst d job entity
    → watched_of (armed_device d job) (waits ++ deps ∷ []) entity ≡ watched_of d waits entity
armed_watched d job waits deps entity stand keeps =
    ap (λ o. cond (is_stopped d entity) [] (option_map_or (λ (n : ℕ × JobRecord). unmet_pairs (armed_device d job).journal entity n.1.ring (option_map_or (λ ds. ds) (slice_get (waits ++ deps ∷ []) n.0) [])) o [])) keeps.first
    ∙ by_first (first (queue_of entity d.journal)) refl
  where
    by_first : (o : Option (ℕ × JobRecord)) → first (queue_of entity d.journal) ≡ o
        → cond (is_stopped d entity) [] (option_map_or (λ (n : ℕ × JobRecord). unmet_pairs (armed_device d job).journal entity n.1.ring (option_map_or (λ ds. ds) (slice_get (waits ++ deps ∷ []) n.0) [])) o [])
        ≡ cond (is_stopped d entity) [] (option_map_or (λ (n : ℕ × JobRecord). unmet_pairs d.journal entity n.1.ring (option_map_or (λ ds. ds) (slice_get waits n.0) [])) o [])
    by_first None is = refl
    by_first (Some m) is =
        let front = first_is d.journal entity m is in
        let lt = slice_get_within d.journal m.0 m.1 front.at in
        let count = stand.count in
        let its = stands_within waits m.0 (omega (arith, lt, count)) in
        let of_jobs = (stand.stand m.0 m.1 its.0 front.at (queued_goes_on m.1.phase front.queued) its.1).of_jobs in
        ap (λ ps. cond (is_stopped d entity) [] ps)
        (ap (λ o. unmet_pairs (armed_device d job).journal entity m.1.ring (option_map_or (λ ds. ds) o [])) (get_front waits deps m.0 (omega (arith, lt, count)) ∙ its.1)
        ∙ (push_unmet d.journal (new_record d job) entity m.1.ring its.0
        (λ k x at. let is_dep = All-contains (IsDependency d.journal m.0 m.1.job) its.0 x of_jobs (contains_at its.0 k x at) in slice_get_within d.journal x.1 is_dep.0 is_dep.1)
        ∙ ap (λ o. unmet_pairs d.journal entity m.1.ring (option_map_or (λ ds. ds) o [])) (sym its.1)))

pub arm_stand : (d : DeviceState) (job : Draft) (waits : List (List (ℕ × ℕ))) (deps : List (ℕ × ℕ)) (h : Heads) (m : ℕ × JobRecord) → WaitsStand d.journal waits
    → first (queue_of job.entity d.journal) ≡ Some m → HeadsStand d waits h → HeadsStand (armed_device d job) (waits ++ deps ∷ []) h
arm_stand d job waits deps h m stand is heads =
    told_alike d.spec (head_key d) (head_key (armed_device d job)) (watched_of d waits) (watched_of (armed_device d job) (waits ++ deps ∷ [])) h heads
    (λ ring e. armed_key d job e ring (keeps e)) (λ e. armed_watched d job waits deps e stand (keeps e))
  where
    keeps : (e : ℕ) → KeepsFirst d job e
    keeps e =
        elim (cases_eq e job.entity) [
          | inl same ↦ keeps_some d job e m (ap (λ x. first (queue_of x d.journal)) same ∙ is)
          | inr apart ↦ keeps_other d job e apart
        ]

pub arm_stand_but : (d : DeviceState) (job : Draft) (waits : List (List (ℕ × ℕ))) (deps : List (ℕ × ℕ)) (h : Heads) → WaitsStand d.journal waits
    → first (queue_of job.entity d.journal) ≡ None → HeadsStand d waits h → HeadsStandBut (armed_device d job) (waits ++ deps ∷ []) job.entity h
arm_stand_but d job waits deps h stand none heads =
    but_alike d (armed_device d job) waits (waits ++ deps ∷ []) job.entity h refl
    (stand_but d waits job.entity h heads (λ ring. empty_key d job.entity ring none) (empty_watched d waits job.entity none))
    (λ ring e apart. armed_key d job e ring (keeps_other d job e apart)) (λ e apart. armed_watched d job waits deps e stand (keeps_other d job e apart))
