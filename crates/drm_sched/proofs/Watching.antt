-- Which fences the heads of the queues wait for, while fences are scheduled and end.
use Rattle.std.proofs.Common.{◌≡◌, ◌≢◌, ℕ, zero, suc, ◌+◌, ◌<◌, Bool, true, false, cond, not, ◌&&◌, ◌==◌, List, [], ◌∷◌, ◌++◌, map, length, Some, refl, sym, ap, subst, ◌∙◌, inl, inr, arith, slice_get, get_or, take, eqb, append-nil}
use Rattle.std.specs.Prelude.{IsFalse}
use Rattle.std.specs.List.{filter, count_by}
use Rattle.std.specs.List.Sorted.{IsPermutation}
use Rattle.std.proofs.lemmas.Bool.{cases_eq, ne_eqb, eq-eqb, both_ways}
use Rattle.std.proofs.lemmas.List.Sums.{sum_by-cons, sum_by_push}
use Rattle.std.proofs.lemmas.List.Sorted.{sum_by-IsPermutation}
use Rattle.std.proofs.lemmas.List.Elements.{filter-append}
use Rattle.std.proofs.lemmas.List.Elements.{All-from_get_or}
use Rattle.std.proofs.lemmas.List.{length-map, length-take-le, take_more, map-append}
use Rattle.std.proofs.lemmas.Map.Keys.{apart_from_distinct}
use Rattle.std.proofs.lemmas.Option.{slice_get_within, slice_get-get_or}
use Rattle.drm_lists.proofs.Places.{to_map, get_take}
use Rattle.drm_resv.specs.Latest.{IsPerEntity}
use Rattle.drm_fence.specs.declared.pair.Pair.{Pair}
use Rattle.drm_fence.specs.Waiting.{unmet_in, HasNoPair, Waiting, without_entity}
use Rattle.drm_state.specs.declared.journal.JobRecord.{JobRecord}
use Rattle.drm_sched.specs.Heads.{AreWatched}
use Rattle.drm_state.specs.Journal.{is_at}
use Rattle.drm_state.specs.Order.{is_met}
use Rattle.drm_sched.specs.Watching.{pair_of, unmet_pairs}
use Rattle.drm_state.proofs.Pairs.{sum_by_agree}

-- tests that agree count alike
pub count_agree : {X : Type 0} (p q : X → Bool) (xs : List X) → ((x : X) → p x ≡ q x) → count_by p xs ≡ count_by q xs
count_agree p q xs same = sum_by_agree (λ x. cond (p x) 1 0) (λ x. cond (q x) 1 0) xs 0 (λ x. ap (λ b. cond b 1 0) (same x))

-- what is counted of what a filter leaves
pub count_filter : {X : Type 0} (p q : X → Bool) (xs : List X) → count_by p (filter q xs) ≡ count_by (λ x. q x && p x) xs
count_filter p q [] = refl
count_filter {X} p q (x ∷ xs) =
    step (q x) (filter q xs) (count_by (λ x. q x && p x) xs) (count_filter p q xs) ∙ sym (sum_by-cons (λ x. cond (q x && p x) 1 0) x xs)
  where
    step : (b : Bool) (ys : List X) (n : ℕ) → count_by p ys ≡ n → count_by p (cond b (x ∷ ys) ys) ≡ cond (b && p x) 1 0 + n
    step true ys n ih = sum_by-cons (λ y. cond (p y) 1 0) x ys ∙ ap (λ k. cond (p x) 1 0 + k) ih
    step false ys n ih = omega (arith, ih)

-- all are counted
pub count_all : {X : Type 0} (xs : List X) → count_by (λ x. true) xs ≡ length xs
count_all [] = refl
count_all {X} (x ∷ xs) = let e = sum_by-cons (λ (y : X). 1) x xs in let rest = count_all xs in omega (arith, e, rest)

and_true : (b : Bool) → (b && true) ≡ b
and_true true = refl
and_true false = refl

swap : (a b c : Bool) → (a && (b && c)) ≡ (b && (a && c))
swap true b c = refl
swap false true c = refl
swap false false c = refl

-- how many fences an entity waits for is how many its head waits for
pub unmet_is : (pairs xs : List Pair) (entity : ℕ) → AreWatched pairs entity xs → unmet_in pairs entity ≡ length xs
unmet_is pairs xs entity are =
    count_agree (λ (p : Pair). p.entity == entity) (λ (p : Pair). (p.entity == entity) && true) pairs (λ p. sym (and_true (p.entity == entity)))
    ∙ (are (λ p. true) ∙ count_all xs)

-- some pairs are met: those of the entity are those that were left of it
pub left_of : (pairs xs : List Pair) (left : Pair → Bool) (entity : ℕ) → AreWatched pairs entity xs → AreWatched (filter left pairs) entity (filter left xs)
left_of pairs xs left entity are test =
    count_filter (λ (p : Pair). (p.entity == entity) && test p) left pairs
    ∙ (count_agree (λ (p : Pair). left p && ((p.entity == entity) && test p)) (λ (p : Pair). (p.entity == entity) && (left p && test p)) pairs
    (λ p. swap (left p) (p.entity == entity) (test p))
    ∙ (are (λ p. left p && test p) ∙ sym (count_filter test left xs)))

count_none : {X : Type 0} (xs : List X) → count_by (λ x. false) xs ≡ 0
count_none [] = refl
count_none {X} (x ∷ xs) = let e = sum_by-cons (λ (y : X). 0) x xs in let rest = count_none xs in omega (arith, e, rest)

and_false : (b : Bool) → (b && false) ≡ false
and_false true = refl
and_false false = refl

-- the pairs of an entity are taken out, and those of another are not
pub forgotten : (pairs : List Pair) (entity : ℕ) → AreWatched (without_entity pairs entity) entity []
forgotten pairs entity test =
    count_filter (λ (p : Pair). (p.entity == entity) && test p) (λ (p : Pair). not (p.entity == entity)) pairs
    ∙ (count_agree (λ (p : Pair). not (p.entity == entity) && ((p.entity == entity) && test p)) (λ (p : Pair). false) pairs (λ p. never (p.entity == entity) (test p))
    ∙ count_none pairs)
  where
    never : (b t : Bool) → (not b && (b && t)) ≡ false
    never true t = refl
    never false t = refl

pub kept_of : (pairs xs : List Pair) (entity other : ℕ) → other ≢ entity → AreWatched pairs other xs → AreWatched (without_entity pairs entity) other xs
kept_of pairs xs entity other apart are test =
    count_filter (λ (p : Pair). (p.entity == other) && test p) (λ (p : Pair). not (p.entity == entity)) pairs
    ∙ (count_agree (λ (p : Pair). not (p.entity == entity) && ((p.entity == other) && test p)) (λ (p : Pair). (p.entity == other) && test p) pairs
    (λ p. same p.entity (test p))
    ∙ are test)
  where
    same : (e : ℕ) (t : Bool) → (not (e == entity) && ((e == other) && t)) ≡ ((e == other) && t)
    same e t =
        elim (cases_eq e other) [
          | inl is ↦ ap (λ b. not b && ((e == other) && t)) (ne_eqb e entity (λ i. apart (sym is ∙ i)))
          | inr differs ↦
              ap (λ b. not (e == entity) && (b && t)) (ne_eqb e other differs)
              ∙ (and_false (not (e == entity)) ∙ sym (ap (λ b. b && t) (ne_eqb e other differs)))
        ]

-- a pair more
pub more_of : (pairs new xs : List Pair) (p : Pair) (entity : ℕ) → IsPermutation (p ∷ pairs) new → p.entity ≡ entity → AreWatched pairs entity xs → AreWatched new entity (xs ++ p ∷ [])
more_of pairs new xs p entity perm of_it are test =
    let counts = sum_by-IsPermutation (λ (q : Pair). cond ((q.entity == entity) && test q) 1 0) (p ∷ pairs) new perm in
    let front = sum_by-cons (λ (q : Pair). cond ((q.entity == entity) && test q) 1 0) p pairs in
    let behind = sum_by_push (λ (q : Pair). cond (test q) 1 0) xs p in
    let here = ap {B = ℕ} (λ b. cond (b && test p) 1 0) (eq-eqb p.entity entity of_it) in
    let old = are test in
    omega (arith, counts, front, behind, here, old)

pub other_of : (pairs new xs : List Pair) (p : Pair) (entity other : ℕ) → IsPermutation (p ∷ pairs) new → p.entity ≡ entity → other ≢ entity → AreWatched pairs other xs → AreWatched new other xs
other_of pairs new xs p entity other perm of_it apart are test =
    let counts = sum_by-IsPermutation (λ (q : Pair). cond ((q.entity == other) && test q) 1 0) (p ∷ pairs) new perm in
    let front = sum_by-cons (λ (q : Pair). cond ((q.entity == other) && test q) 1 0) p pairs in
    let here = ap {B = ℕ} (λ b. cond (b && test p) 1 0) (ne_eqb p.entity other (λ is. apart (sym is ∙ of_it))) in
    let old = are test in
    omega (arith, counts, front, here, old)

no_count : (b : Bool) (n : ℕ) → cond b 1 0 + n ≡ 0 → (b ≡ false) × (n ≡ 0)
no_count true n is = absurd (omega (arith, is))
no_count false n is = (refl, omega (arith, is))

-- what is counted nowhere fails everywhere
all_no : {X : Type 0} (q : X → Bool) (xs : List X) → count_by q xs ≡ 0 → (k : ℕ) (x : X) → slice_get xs k ≡ Some x → q x ≡ false
all_no q [] none k x at = absurd (cc (at))
all_no {X} q (y ∷ ys) none zero x at = let same : y ≡ x = cc (at) in ap q (sym same) ∙ (no_count (q y) (count_by q ys) (sym (sum_by-cons (λ (z : X). cond (q z) 1 0) y ys) ∙ none)).0
all_no {X} q (y ∷ ys) none (suc k) x at = all_no q ys (no_count (q y) (count_by q ys) (sym (sum_by-cons (λ (z : X). cond (q z) 1 0) y ys) ∙ none)).1 k x at

-- of the dependencies that an entity has pairs of, none is of an entity that none of them is of
none_of_unmet : (js : List JobRecord) (entity ring of : ℕ) (deps : List (ℕ × ℕ)) → ((k : ℕ) (d : ℕ × ℕ) → slice_get deps k ≡ Some d → d.0 ≢ of)
    → count_by (λ (p : Pair). p.of == of) (unmet_pairs js entity ring deps) ≡ 0
none_of_unmet js entity ring of [] apart = refl
none_of_unmet js entity ring of (d ∷ deps) apart =
    in_front (not (is_at js d.1 (is_met ring))) (none_of_unmet js entity ring of deps (λ k x at. apart (suc k) x at))
  where
    in_front : (b : Bool) → count_by (λ (p : Pair). p.of == of) (unmet_pairs js entity ring deps) ≡ 0
        → count_by (λ (p : Pair). p.of == of)
        (map (pair_of js entity ring) (cond b (d ∷ filter (λ (x : ℕ × ℕ). not (is_at js x.1 (is_met ring))) deps) (filter (λ (x : ℕ × ℕ). not (is_at js x.1 (is_met ring))) deps))) ≡ 0
    in_front true rest =
        let e = sum_by-cons (λ (p : Pair). cond (p.of == of) 1 0) (pair_of js entity ring d) (unmet_pairs js entity ring deps) in
        let here = ap {B = ℕ} (λ b. cond b 1 0) (ne_eqb d.0 of (apart 0 d refl)) in
        omega (arith, e, here, rest)
    in_front false rest = rest

-- a dependency is of another entity than those before it
apart_before : (deps : List (ℕ × ℕ)) (i : ℕ) (d : ℕ × ℕ) → IsPerEntity deps → slice_get deps i ≡ Some d
    → (k : ℕ) (x : ℕ × ℕ) → slice_get (take i deps) k ≡ Some x → x.0 ≢ d.0
apart_before deps i d per at k x there same =
    let lt = slice_get_within deps i d at in
    let before : k < i = (let small = slice_get_within (take i deps) k x there in omega (arith, small, length-take-le i deps (omega (arith, lt)))) in
    let at_k = sym (get_take deps i k before) ∙ there in
    let owners = map (λ (e : ℕ × ℕ). e.0) deps in
    let count : length owners ≡ length deps = length-map deps (λ (e : ℕ × ℕ). e.0) in
    let here = sym (slice_get-get_or owners k 0 (omega (arith, before, lt, count))) ∙ to_map (λ (e : ℕ × ℕ). e.0) deps k x at_k in
    let then = sym (slice_get-get_or owners i 0 (omega (arith, lt, count))) ∙ to_map (λ (e : ℕ × ℕ). e.0) deps i d at in
    let is_x : get_or owners k 0 ≡ x.0 = cc (here) in
    let is_d : get_or owners i 0 ≡ d.0 = cc (then) in
    both_ways (eqb (get_or owners k 0) (get_or owners i 0)) (apart_from_distinct eqb owners k i 0 per.once before (omega (arith, lt, count)))
    (eq-eqb (get_or owners k 0) (get_or owners i 0) (is_x ∙ (same ∙ sym is_d)))

-- so it can be watched after them
pub no_pair : (pairs : List Pair) (js : List JobRecord) (entity ring i : ℕ) (d : ℕ × ℕ) (deps : List (ℕ × ℕ)) → AreWatched pairs entity (unmet_pairs js entity ring (take i deps))
    → IsPerEntity deps → slice_get deps i ≡ Some d → HasNoPair pairs entity d.0
no_pair pairs js entity ring i d deps are per at =
    All-from_get_or (λ (p : Pair). IsFalse ((p.entity == entity) && (p.of == d.0))) pairs (record { entity = 0; fence = 0; of = 0; is_early = false })
    (λ k lt. all_no (λ (p : Pair). (p.entity == entity) && (p.of == d.0)) pairs
    (are (λ p. p.of == d.0) ∙ none_of_unmet js entity ring d.0 (take i deps) (apart_before deps i d per at)) k _ (slice_get-get_or pairs k _ lt))

-- one dependency more
pub unmet_more : (js : List JobRecord) (entity ring : ℕ) (deps : List (ℕ × ℕ)) (d : ℕ × ℕ) (met : Bool) → met ≡ is_at js d.1 (is_met ring)
    → unmet_pairs js entity ring (deps ++ d ∷ []) ≡ unmet_pairs js entity ring deps ++ cond met [] (pair_of js entity ring d ∷ [])
unmet_more js entity ring deps d met is =
    ap (map (pair_of js entity ring)) (filter-append (λ (x : ℕ × ℕ). not (is_at js x.1 (is_met ring))) deps (d ∷ []))
    ∙ (map-append (pair_of js entity ring) (filter (λ (x : ℕ × ℕ). not (is_at js x.1 (is_met ring))) deps) (filter (λ (x : ℕ × ℕ). not (is_at js x.1 (is_met ring))) (d ∷ []))
    ∙ ap (λ ps. unmet_pairs js entity ring deps ++ ps) (ap (λ b. map (pair_of js entity ring) (cond (not b) (d ∷ []) [])) (sym is) ∙ by_case met))
  where
    by_case : (b : Bool) → map (pair_of js entity ring) (cond (not b) (d ∷ []) []) ≡ cond b [] (pair_of js entity ring d ∷ [])
    by_case true = refl
    by_case false = refl

-- the pairs of the entity's first dependencies that are not met, and those of other entities as they were
pub record IsWatching (js : List JobRecord) (entity ring : ℕ) (seen : List (ℕ × ℕ)) (old new : Waiting) : Type 0 where
  pub watched : AreWatched new.pairs entity (unmet_pairs js entity ring seen)
  pub others : (e : ℕ) (pairs : List Pair) → e ≢ entity → AreWatched old.pairs e pairs → AreWatched new.pairs e pairs
  pub entities : new.entities ≡ old.entities
  pub fences : new.fences ≡ old.fences

pub watching_more : (js : List JobRecord) (entity ring i : ℕ) (d : ℕ × ℕ) (deps : List (ℕ × ℕ)) (early : Bool) (old w new : Waiting) → IsWatching js entity ring (take i deps) old w
    → i < length deps → d ≡ get_or deps i d → is_at js d.1 (is_met ring) ≡ false → early ≡ is_at js d.1 (λ r. r.ring == ring)
    → IsPermutation (record { entity = entity; fence = d.1; of = d.0; is_early = early } ∷ w.pairs) new.pairs → new.entities ≡ w.entities → new.fences ≡ w.fences
    → IsWatching js entity ring (take (i + 1) deps) old new
watching_more js entity ring i d deps early old w new is lt at unmet early_is perm entities fences =
    let p : Pair = record { entity = entity; fence = d.1; of = d.0; is_early = early } in
    let p_is : p ≡ pair_of js entity ring d = ap (λ b. let q : Pair = record { entity = entity; fence = d.1; of = d.0; is_early = b } in q) early_is in
    let seen : take (i + 1) deps ≡ take i deps ++ d ∷ [] = take_more deps i d lt ∙ ap (λ x. take i deps ++ x ∷ []) (sym at) in
    record {
      watched = subst (λ ps. AreWatched new.pairs entity ps)
          (ap (λ q. unmet_pairs js entity ring (take i deps) ++ q ∷ []) p_is
          ∙ sym (ap (unmet_pairs js entity ring) seen ∙ unmet_more js entity ring (take i deps) d false (sym unmet)))
          (more_of w.pairs new.pairs (unmet_pairs js entity ring (take i deps)) p entity perm refl is.watched);
      others = λ e pairs apart are. other_of w.pairs new.pairs pairs p entity e perm refl apart (is.others e pairs apart are);
      entities = entities ∙ is.entities;
      fences = fences ∙ is.fences;
    }

pub watching_met : (js : List JobRecord) (entity ring i : ℕ) (d : ℕ × ℕ) (deps : List (ℕ × ℕ)) (old w : Waiting) → IsWatching js entity ring (take i deps) old w
    → i < length deps → d ≡ get_or deps i d → is_at js d.1 (is_met ring) ≡ true → IsWatching js entity ring (take (i + 1) deps) old w
watching_met js entity ring i d deps old w is lt at met =
    let seen : take (i + 1) deps ≡ take i deps ++ d ∷ [] = take_more deps i d lt ∙ ap (λ x. take i deps ++ x ∷ []) (sym at) in
    record {
      watched = subst (λ ps. AreWatched w.pairs entity ps)
          (sym (append-nil (unmet_pairs js entity ring (take i deps)))
          ∙ sym (ap (unmet_pairs js entity ring) seen ∙ unmet_more js entity ring (take i deps) d true (sym met)))
          is.watched;
      others = is.others;
      entities = is.entities;
      fences = is.fences;
    }
