-- What an event leaves of the heads of the queues.
use Rattle.std.proofs.Common.{◌≡◌, ◌≢◌, ℕ, zero, suc, ◌+◌, Bool, true, false, cond, not, ◌&&◌, ◌||◌, ◌==◌, List, [], ◌∷◌, map, length, set, Some, None, Option, refl, sym, ap, subst, ◌∙◌, inl, inr, arith, slice_get, nat_lt}
use Rattle.std.specs.Option.{option_map_or}
use Rattle.std.specs.List.{filter, enumerate_from}
use Rattle.std.proofs.lemmas.Bool.{cases_Bool, cases_eq, eq-eqb, and_parts, ltb-true, ltb-false}
use Rattle.std.proofs.lemmas.List.{length-set, length-map}
use Rattle.std.proofs.lemmas.Option.{slice_get_past}
use Rattle.drm_lists.proofs.Places.{stands_within, to_map}
use Rattle.drm_lists.proofs.Changed.{get_set_same, get_set_other}
use Rattle.drm_types.specs.declared.spec.DeviceSpec.{DeviceSpec}
use Rattle.drm_types.specs.Firsts.{first}
use Rattle.drm_fence.specs.Phases.{is_queued, has_ended}
use Rattle.drm_fence.specs.declared.pair.Pair.{Pair}
use Rattle.drm_sched.specs.declared.heads.Heads.{Heads}
use Rattle.drm_state.specs.declared.journal.JobRecord.{JobRecord}
use Rattle.drm_state.specs.Choice.{queue_of}
use Rattle.drm_sched.specs.Heads.{key_of, head_key, HeadsAre, HeadsStand, HeadsStandBut}
use Rattle.drm_state.specs.Journal.{is_at}
use Rattle.drm_state.specs.Order.{is_met}
use Rattle.drm_state.specs.Ring.{is_stopped}
use Rattle.drm_state.specs.State.{DeviceState}
use Rattle.drm_sched.specs.Watching.{pair_of, unmet_pairs, watched_of}
use Rattle.drm_sched.proofs.HeadsKept.{told_alike, but_key, but_watched}
use Rattle.drm_table.proofs.Queues.{waits_in}

-- what stays of the head of an entity: its job, on its ring. A fence is met that was met, and those that `Met` tells
pub record LeavesHead (d n : DeviceState) (Met : ℕ → ℕ → Bool) (entity : ℕ) : Type 0 where
  pub spec : n.spec ≡ d.spec
  pub stopped : is_stopped n entity ≡ is_stopped d entity
  pub queue : queue_of entity n.journal ≡ queue_of entity d.journal
  pub on_ring : (ring k : ℕ) → is_at n.journal k (λ r. r.ring == ring) ≡ is_at d.journal k (λ r. r.ring == ring)
  pub met : (ring k : ℕ) → is_at n.journal k (is_met ring) ≡ (is_at d.journal k (is_met ring) || Met ring k)

-- whether the pairs that are left are those of fences that are not met now
abbrev pub LeavesUnmet : DeviceState → (ℕ → ℕ → Bool) → ℕ → (Pair → Bool) → Type 0
LeavesUnmet d Met entity left = (ring : ℕ) (dep : ℕ × ℕ) → left (pair_of d.journal entity ring dep) ≡ not (Met ring dep.1)

pub left_key : (d n : DeviceState) (Met : ℕ → ℕ → Bool) (entity ring : ℕ) → LeavesHead d n Met entity → head_key n ring entity ≡ head_key d ring entity
left_key d n Met entity ring leaves =
    ap (λ b. cond b None (option_map_or (λ (m : ℕ × JobRecord). cond (m.1.ring == ring) (key_of n.spec entity m.0) None) (first (queue_of entity n.journal)) None)) leaves.stopped
    ∙ (ap (λ q. cond (is_stopped d entity) None (option_map_or (λ (m : ℕ × JobRecord). cond (m.1.ring == ring) (key_of n.spec entity m.0) None) (first q) None)) leaves.queue
    ∙ ap (λ s. cond (is_stopped d entity) None (option_map_or (λ (m : ℕ × JobRecord). cond (m.1.ring == ring) (key_of s entity m.0) None) (first (queue_of entity d.journal)) None)) leaves.spec)

-- the dependencies that are not met yet
unmet_left : (d n : DeviceState) (Met : ℕ → ℕ → Bool) (entity ring : ℕ) (left : Pair → Bool) (deps : List (ℕ × ℕ)) → LeavesHead d n Met entity → LeavesUnmet d Met entity left
    → unmet_pairs n.journal entity ring deps ≡ filter left (unmet_pairs d.journal entity ring deps)
unmet_left d n Met entity ring left [] leaves unmet = refl
unmet_left d n Met entity ring left (dep ∷ deps) leaves unmet =
    ap (λ b. map (pair_of n.journal entity ring) (cond (not b) (dep ∷ news) news)) (leaves.met ring dep.1)
    ∙ in_front (is_at d.journal dep.1 (is_met ring)) (Met ring dep.1) (unmet ring dep) (unmet_left d n Met entity ring left deps leaves unmet)
  where
    news : List (ℕ × ℕ)
    news = filter (λ (x : ℕ × ℕ). not (is_at n.journal x.1 (is_met ring))) deps

    olds : List (ℕ × ℕ)
    olds = filter (λ (x : ℕ × ℕ). not (is_at d.journal x.1 (is_met ring))) deps

    same : pair_of n.journal entity ring dep ≡ pair_of d.journal entity ring dep
    same = ap (λ b. let p : Pair = record { entity = entity; fence = dep.1; of = dep.0; is_early = b } in p) (leaves.on_ring ring dep.1)

    in_front : (was now : Bool) → left (pair_of d.journal entity ring dep) ≡ not now
        → unmet_pairs n.journal entity ring deps ≡ filter left (unmet_pairs d.journal entity ring deps)
        → map (pair_of n.journal entity ring) (cond (not (was || now)) (dep ∷ news) news)
        ≡ filter left (map (pair_of d.journal entity ring) (cond (not was) (dep ∷ olds) olds))
    in_front true now is rest = rest
    in_front false true is rest =
        rest ∙ sym (ap (λ b. cond b (pair_of d.journal entity ring dep ∷ filter left (unmet_pairs d.journal entity ring deps)) (filter left (unmet_pairs d.journal entity ring deps))) is)
    in_front false false is rest =
        ap (λ p. p ∷ unmet_pairs n.journal entity ring deps) same
        ∙ (ap (λ ps. pair_of d.journal entity ring dep ∷ ps) rest
        ∙ sym (ap (λ b. cond b (pair_of d.journal entity ring dep ∷ filter left (unmet_pairs d.journal entity ring deps)) (filter left (unmet_pairs d.journal entity ring deps))) is))

pub left_watched : (d n : DeviceState) (waits : List (List (ℕ × ℕ))) (Met : ℕ → ℕ → Bool) (entity : ℕ) (left : Pair → Bool) → LeavesHead d n Met entity → LeavesUnmet d Met entity left
    → watched_of n waits entity ≡ filter left (watched_of d waits entity)
left_watched d n waits Met entity left leaves unmet =
    ap (λ b. cond b [] (option_map_or (λ (m : ℕ × JobRecord). unmet_pairs n.journal entity m.1.ring (option_map_or (λ ds. ds) (slice_get waits m.0) [])) (first (queue_of entity n.journal)) [])) leaves.stopped
    ∙ (ap (λ q. cond (is_stopped d entity) [] (option_map_or (λ (m : ℕ × JobRecord). unmet_pairs n.journal entity m.1.ring (option_map_or (λ ds. ds) (slice_get waits m.0) [])) (first q) [])) leaves.queue
    ∙ by_case (is_stopped d entity) (first (queue_of entity d.journal)))
  where
    by_case : (b : Bool) (o : Option (ℕ × JobRecord))
        → cond b [] (option_map_or (λ (m : ℕ × JobRecord). unmet_pairs n.journal entity m.1.ring (option_map_or (λ ds. ds) (slice_get waits m.0) [])) o [])
        ≡ filter left (cond b [] (option_map_or (λ (m : ℕ × JobRecord). unmet_pairs d.journal entity m.1.ring (option_map_or (λ ds. ds) (slice_get waits m.0) [])) o []))
    by_case true o = refl
    by_case false None = refl
    by_case false (Some m) = unmet_left d n Met entity m.1.ring left (option_map_or (λ ds. ds) (slice_get waits m.0) []) leaves unmet

-- ---- one record that changes

-- a record of no entity's queue that changes and is in none
set_queue : (entity k f : ℕ) (js : List JobRecord) (r new : JobRecord) → slice_get js f ≡ Some r → waits_in entity r ≡ false → waits_in entity new ≡ false
    → filter (λ (n : ℕ × JobRecord). waits_in entity n.1) (enumerate_from k (set js f new)) ≡ filter (λ (n : ℕ × JobRecord). waits_in entity n.1) (enumerate_from k js)
set_queue entity k f [] r new at was now = refl
set_queue entity k zero (x ∷ xs) r new at was now =
    let same : x ≡ r = cc (at) in
    let rest = filter (λ (n : ℕ × JobRecord). waits_in entity n.1) (enumerate_from (k + 1) xs) in
    ap (λ b. cond b ((k, new) ∷ rest) rest) now ∙ sym (ap (λ b. cond b ((k, x) ∷ rest) rest) (ap (waits_in entity) same ∙ was))
set_queue entity k (suc f) (x ∷ xs) r new at was now =
    ap (λ rest. cond (waits_in entity x) ((k, x) ∷ rest) rest) (set_queue entity (k + 1) f xs r new at was now)

-- a test of the records, before and after
set_at : (js : List JobRecord) (f k : ℕ) (r new : JobRecord) (test : JobRecord → Bool) → slice_get js f ≡ Some r → test new ≡ test r → is_at (set js f new) k test ≡ is_at js k test
set_at js f k r new test at same =
    elim (cases_eq k f) [
      | inl here ↦
          ap (λ n. is_at (set js f new) n test) here
          ∙ (ap (λ o. option_map_or test o false) (get_set_same js f r new at)
          ∙ (same ∙ (sym (ap (λ o. option_map_or test o false) at) ∙ sym (ap (λ n. is_at js n test) here))))
      | inr apart ↦ ap (λ o. option_map_or test o false) (get_set_other js f k new apart)
    ]

or_false : (b : Bool) → b ≡ (b || false)
or_false true = refl
or_false false = refl

set_met : (js : List JobRecord) (f k ring : ℕ) (r new : JobRecord) (Met : ℕ → ℕ → Bool) → slice_get js f ≡ Some r → is_met ring new ≡ (is_met ring r || Met ring f)
    → ((m : ℕ) → m ≢ f → Met ring m ≡ false) → is_at (set js f new) k (is_met ring) ≡ (is_at js k (is_met ring) || Met ring k)
set_met js f k ring r new Met at here there =
    elim (cases_eq k f) [
      | inl same ↦
          subst (λ n. is_at (set js f new) n (is_met ring) ≡ (is_at js n (is_met ring) || Met ring n)) (sym same)
          (ap (λ o. option_map_or (is_met ring) o false) (get_set_same js f r new at)
          ∙ (here ∙ ap (λ o. option_map_or (is_met ring) o false || Met ring f) (sym at)))
      | inr apart ↦
          ap (λ o. option_map_or (is_met ring) o false) (get_set_other js f k new apart)
          ∙ (or_false (is_at js k (is_met ring)) ∙ ap (λ b. is_at js k (is_met ring) || b) (sym (there k apart)))
    ]

pub set_leaves : (d n : DeviceState) (Met : ℕ → ℕ → Bool) (entity f : ℕ) (r new : JobRecord) → n.spec ≡ d.spec → is_stopped n entity ≡ is_stopped d entity
    → slice_get d.journal f ≡ Some r → n.journal ≡ set d.journal f new → new.ring ≡ r.ring → waits_in entity r ≡ false → waits_in entity new ≡ false
    → ((ring : ℕ) → is_met ring new ≡ (is_met ring r || Met ring f)) → ((ring m : ℕ) → m ≢ f → Met ring m ≡ false) → LeavesHead d n Met entity
set_leaves d n Met entity f r new spec stopped at journal ring was now here there = record {
  spec = spec;
  stopped = stopped;
  queue = ap (queue_of entity) journal ∙ set_queue entity 0 f d.journal r new at was now;
  on_ring = λ k m. ap (λ js. is_at js m (λ x. x.ring == k)) journal ∙ set_at d.journal f m r new (λ x. x.ring == k) at (ap (λ n. n == k) ring);
  met = λ k m. ap (λ js. is_at js m (is_met k)) journal ∙ set_met d.journal f m k r new Met at (here k) (there k);
}

-- ---- records that stay on their rings and in their phases

pub record SameHead (old new : JobRecord) : Type 0 where
  pub entity : new.job.entity ≡ old.job.entity
  pub ring : new.ring ≡ old.ring
  pub phase : new.phase ≡ old.phase
  pub queued : is_queued old.phase ≡ true → new ≡ old

pub record SameHeads (js ks : List JobRecord) : Type 0 where
  pub count : length ks ≡ length js
  pub each : (k : ℕ) (x : JobRecord) → slice_get js k ≡ Some x → (y : JobRecord) × (slice_get ks k ≡ Some y) × SameHead x y

pub same_head_itself : (r : JobRecord) → SameHead r r
same_head_itself r = record { entity = refl; ring = refl; phase = refl; queued = λ is. refl }

pub same_heads_itself : (js : List JobRecord) → SameHeads js js
same_heads_itself js = record { count = refl; each = λ k x at. (x, at, same_head_itself x) }

pub same_heads_trans : (js ks ls : List JobRecord) → SameHeads js ks → SameHeads ks ls → SameHeads js ls
same_heads_trans js ks ls a b = record {
  count = b.count ∙ a.count;
  each = λ k x at.
      let y = a.each k x at in
      let z = b.each k y.0 y.1 in (
        z.0,
        z.1,
        record {
          entity = z.2.entity ∙ y.2.entity;
          ring = z.2.ring ∙ y.2.ring;
          phase = z.2.phase ∙ y.2.phase;
          queued = λ is. z.2.queued (ap is_queued y.2.phase ∙ is) ∙ y.2.queued is;
        },
      );
}

pub same_heads_set : (js : List JobRecord) (f : ℕ) (r new : JobRecord) → slice_get js f ≡ Some r → SameHead r new → SameHeads js (set js f new)
same_heads_set js f r new at same = record {
  count = length-set js f new;
  each = λ k x at_k.
      elim (cases_eq k f) [
        | inl here ↦
            let is : r ≡ x = cc (at, at_k, here) in
            (new, subst (λ n. slice_get (set js f new) n ≡ Some new) (sym here) (get_set_same js f r new at), subst (λ z. SameHead z new) is same)
        | inr apart ↦ (x, get_set_other js f k new apart ∙ at_k, same_head_itself x)
      ];
}

pub same_heads_map : (js : List JobRecord) (change : JobRecord → JobRecord) → ((r : JobRecord) → SameHead r (change r)) → SameHeads js (map change js)
same_heads_map js change same = record {
  count = length-map js change;
  each = λ k x at. (change x, to_map change js k x at, same x);
}

same_waits : (entity : ℕ) (x y : JobRecord) → SameHead x y → waits_in entity y ≡ waits_in entity x
same_waits entity x y same = ap (λ e. (e == entity) && is_queued y.phase) same.entity ∙ ap (λ p. (x.job.entity == entity) && is_queued p) same.phase

same_queue : (entity k : ℕ) (js ks : List JobRecord) → SameHeads js ks
    → filter (λ (n : ℕ × JobRecord). waits_in entity n.1) (enumerate_from k ks) ≡ filter (λ (n : ℕ × JobRecord). waits_in entity n.1) (enumerate_from k js)
same_queue entity k [] [] same = refl
same_queue entity k [] (y ∷ ys) same = absurd (let count = same.count in omega (arith, count))
same_queue entity k (x ∷ xs) [] same = absurd (let count = same.count in omega (arith, count))
same_queue entity k (x ∷ xs) (y ∷ ys) same =
    let z = same.each 0 x refl in
    let at = z.1 in
    let is : z.0 ≡ y = cc (at) in
    let head : SameHead x y = subst (SameHead x) is z.2 in
    let tail : SameHeads xs ys = record { count = (let count = same.count in omega (arith, count)); each = λ i r there. same.each (suc i) r there } in
    in_front (waits_in entity x) refl head (same_queue entity (k + 1) xs ys tail)
  where
    news : List (ℕ × JobRecord)
    news = filter (λ (n : ℕ × JobRecord). waits_in entity n.1) (enumerate_from (k + 1) ys)

    olds : List (ℕ × JobRecord)
    olds = filter (λ (n : ℕ × JobRecord). waits_in entity n.1) (enumerate_from (k + 1) xs)

    by_case : (b : Bool) → (b ≡ true → y ≡ x) → news ≡ olds → cond b ((k, y) ∷ news) news ≡ cond b ((k, x) ∷ olds) olds
    by_case true is rest = ap (λ (z : JobRecord). (k, z) ∷ news) (is refl) ∙ ap (λ ns. (k, x) ∷ ns) rest
    by_case false is rest = rest

    in_front : (b : Bool) → waits_in entity x ≡ b → SameHead x y → news ≡ olds
        → cond (waits_in entity y) ((k, y) ∷ news) news ≡ cond (waits_in entity x) ((k, x) ∷ olds) olds
    in_front b is head rest =
        ap (λ t. cond t ((k, y) ∷ news) news) (same_waits entity x y head)
        ∙ by_case (waits_in entity x) (λ waits. head.queued (and_parts (x.job.entity == entity) (is_queued x.phase) waits).1) rest

same_at : (js ks : List JobRecord) (test : JobRecord → Bool) (k : ℕ) → SameHeads js ks → ((x y : JobRecord) → SameHead x y → test y ≡ test x) → is_at ks k test ≡ is_at js k test
same_at js ks test k same tests =
    elim (cases_Bool (nat_lt k (length js))) [
      | inl lt ↦
          let x = stands_within js k (ltb-true k (length js) lt) in
          let y = same.each k x.0 x.1 in
          ap (λ o. option_map_or test o false) y.1 ∙ (tests x.0 y.0 y.2 ∙ sym (ap (λ o. option_map_or test o false) x.1))
      | inr past ↦
          let le = ltb-false k (length js) past in
          let count = same.count in
          ap (λ o. option_map_or test o false) (slice_get_past ks k (omega (arith, le, count))) ∙ sym (ap (λ o. option_map_or test o false) (slice_get_past js k le))
    ]

pub heads_alike : (d n : DeviceState) (entity : ℕ) → n.spec ≡ d.spec → is_stopped n entity ≡ is_stopped d entity → SameHeads d.journal n.journal → LeavesHead d n (λ ring k. false) entity
heads_alike d n entity spec stopped same = record {
  spec = spec;
  stopped = stopped;
  queue = same_queue entity 0 d.journal n.journal same;
  on_ring = λ ring k. same_at d.journal n.journal (λ r. r.ring == ring) k same (λ x y is. ap (λ m. m == ring) is.ring);
  met = λ ring k. same_at d.journal n.journal (is_met ring) k same (λ x y is. tests ring x y is) ∙ or_false (is_at d.journal k (is_met ring));
}
  where
    tests : (ring : ℕ) (x y : JobRecord) → SameHead x y → is_met ring y ≡ is_met ring x
    tests ring x y is =
        ap (λ p. has_ended p || (not (is_queued p) && (y.ring == ring))) is.phase
        ∙ ap (λ m. has_ended x.phase || (not (is_queued x.phase) && (m == ring))) is.ring

-- ---- the heads of all entities

pub keep_all : (ps : List Pair) → filter (λ p. true) ps ≡ ps
keep_all [] = refl
keep_all (p ∷ ps) = ap (λ qs. p ∷ qs) (keep_all ps)

-- an event that leaves all
pub stand_alike : (d n : DeviceState) (waits : List (List (ℕ × ℕ))) (h : Heads) → n.spec ≡ d.spec → ((entity : ℕ) → is_stopped n entity ≡ is_stopped d entity)
    → SameHeads d.journal n.journal → HeadsStand d waits h → HeadsStand n waits h
stand_alike d n waits h spec stopped same stand =
    let leaves = λ (e : ℕ). heads_alike d n e spec (stopped e) same in
    subst (λ (s : DeviceSpec). HeadsAre s (head_key n) (watched_of n waits) h) (sym spec)
    (told_alike d.spec (head_key d) (head_key n) (watched_of d waits) (watched_of n waits) h stand
    (λ ring e. left_key d n (λ ring k. false) e ring (leaves e))
    (λ e. left_watched d n waits (λ ring k. false) e (λ p. true) (leaves e) (λ ring dep. refl) ∙ keep_all (watched_of d waits e)))

-- and one by which fences are met
pub stand_left : (d n : DeviceState) (waits : List (List (ℕ × ℕ))) (h : Heads) (Met : ℕ → ℕ → Bool) (left : Pair → Bool) → n.spec ≡ d.spec
    → ((entity : ℕ) → LeavesHead d n Met entity) → ((entity : ℕ) → LeavesUnmet d Met entity left)
    → HeadsAre d.spec (head_key d) (λ e. filter left (watched_of d waits e)) h → HeadsStand n waits h
stand_left d n waits h Met left spec leaves unmet are =
    subst (λ (s : DeviceSpec). HeadsAre s (head_key n) (watched_of n waits) h) (sym spec)
    (told_alike d.spec (head_key d) (head_key n) (λ e. filter left (watched_of d waits e)) (watched_of n waits) h are
    (λ ring e. left_key d n Met e ring (leaves e))
    (λ e. left_watched d n waits Met e left (leaves e) (unmet e)))

-- the same, of all but one
pub but_left : (d n : DeviceState) (waits : List (List (ℕ × ℕ))) (h : Heads) (Met : ℕ → ℕ → Bool) (left : Pair → Bool) (entity : ℕ) → n.spec ≡ d.spec
    → ((e : ℕ) → e ≢ entity → LeavesHead d n Met e) → ((e : ℕ) → LeavesUnmet d Met e left)
    → HeadsAre d.spec (but_key entity (head_key d)) (but_watched entity (λ e. filter left (watched_of d waits e))) h → HeadsStandBut n waits entity h
but_left d n waits h Met left entity spec leaves unmet are =
    subst (λ (s : DeviceSpec). HeadsAre s (but_key entity (head_key n)) (but_watched entity (watched_of n waits)) h) (sym spec)
    (told_alike d.spec (but_key entity (head_key d)) (but_key entity (head_key n)) (but_watched entity (λ e. filter left (watched_of d waits e))) (but_watched entity (watched_of n waits)) h are keys pairs)
  where
    keys : (ring e : ℕ) → but_key entity (head_key n) ring e ≡ but_key entity (head_key d) ring e
    keys ring e =
        elim (cases_eq e entity) [
          | inl same ↦ ap (λ b. cond b None (head_key n ring e)) (eq-eqb e entity same) ∙ sym (ap (λ b. cond b None (head_key d ring e)) (eq-eqb e entity same))
          | inr apart ↦ ap (λ k. cond (e == entity) None k) (left_key d n Met e ring (leaves e apart))
        ]

    pairs : (e : ℕ) → but_watched entity (watched_of n waits) e ≡ but_watched entity (λ x. filter left (watched_of d waits x)) e
    pairs e =
        elim (cases_eq e entity) [
          | inl same ↦
              ap (λ b. cond b [] (watched_of n waits e)) (eq-eqb e entity same) ∙ sym (ap (λ b. cond b [] (filter left (watched_of d waits e))) (eq-eqb e entity same))
          | inr apart ↦ ap (λ ps. cond (e == entity) [] ps) (left_watched d n waits Met e left (leaves e apart) (unmet e))
        ]
