-- What is known after a look at a job, and that it stays so.
use Rattle.std.proofs.Common.{◌≡◌, ℕ, ◌+◌, ◌<◌, ◌≤◌, ◌⊎◌, Bool, true, false, not, ◌&&◌, ◌||◌, ◌==◌, List, take, Some, None, Option, refl, sym, ap, subst, ◌∙◌, inl, inr, arith, length, slice_get}
use Rattle.std.specs.Prelude.{find, option_map, unwrap_or}
use Rattle.std.specs.Option.{option_map_or}
use Rattle.std.proofs.lemmas.Bool.{and_from, and_parts, both_ways, cases_Bool, cases_eq, not-true, not_from_false, or_cases, or_left, or_right}
use Rattle.std.proofs.lemmas.Option.{slice_get_within}
use Rattle.drm_fence.specs.declared.phase.Phase.{Phase}
use Rattle.drm_fence.specs.declared.phase.Phase.TheVariants.{Queued, Scheduled, Ended}
use Rattle.drm_fence.specs.Phases.{is_queued, has_ended}
use Rattle.drm_job.specs.declared.Draft.{Draft}
use Rattle.drm_state.specs.declared.journal.JobRecord.{JobRecord}
use Rattle.drm_state.specs.State.{DeviceState}
use Rattle.drm_state.specs.Grows.{EachInPlace, GoesOn, RecordGrows}
use Rattle.drm_state.specs.Journal.{is_at, numbered}
use Rattle.drm_state.specs.Order.{comes_after, is_met}
use Rattle.drm_lists.proofs.Places.{stands_within}
use Rattle.drm_state.proofs.Records.{at_test, passes_at}
use Rattle.drm_reason.specs.Reasons.{head_reason, is_going, least_going, least_unmet, must_follow, ready_reason, unmet_reason}
use Rattle.drm_reason.specs.Standing.{is_unmet}
use Rattle.drm_reason.specs.Watching.{IsKnownBelow, KnowledgeStays, NoneBelow}
use Rattle.drm_reason.proofs.Finds.{finds_before, finds_none_before, first_before, none_before}
use Rattle.drm_reason.proofs.Unmet.{unmet_by_both, unmet_found}

-- ---- a look from a known number on

-- one record more that fails
pub none_more : (js : List JobRecord) (test : ℕ × JobRecord → Bool) (k : ℕ) → NoneBelow js test k → is_at js k (λ x. test (k, x)) ≡ false
    → NoneBelow js test (k + 1)
none_more js test k none fails i x less at =
    elim (cases_eq i k) [
      | inl same ↦
          let here : slice_get js k ≡ Some x = subst (λ (m : ℕ). slice_get js m ≡ Some x) same at in
          subst (λ (m : ℕ). test (m, x) ≡ false) (sym same) (sym (at_test js k x (λ (y : JobRecord). test (k, y)) here) ∙ fails)
      | inr apart ↦ none i x (omega (arith, less, apart)) at
    ]

-- the first that passes, and that none does
first_passes : (js : List JobRecord) (test : ℕ × JobRecord → Bool) (n k : ℕ) → NoneBelow js test k → k < n → is_at js k (λ x. test (k, x)) ≡ true
    → option_map (λ (m : ℕ × JobRecord). m.0) (find test (take n (numbered js))) ≡ Some k
first_passes js test n k none less passes =
    let (x, at, holds) = passes_at js k (λ (y : JobRecord). test (k, y)) passes in
    ap (option_map (λ (m : ℕ × JobRecord). m.0))
    (finds_before js n test k x (record { within = less; at = at; passes = holds; before = none }))

no_passing : (js : List JobRecord) (test : ℕ × JobRecord → Bool) (n k : ℕ) → NoneBelow js test k → n ≤ k
    → option_map (λ (m : ℕ × JobRecord). m.0) (find test (take n (numbered js))) ≡ None
no_passing js test n k none all =
    ap (option_map (λ (m : ℕ × JobRecord). m.0)) (finds_none_before js n test (λ i x less at. none i x (omega (arith, less, all)) at))

numbers_agree : (js : List JobRecord) (n : ℕ) (job : JobRecord)
    → option_map (λ (m : ℕ × JobRecord). m.0) (least_unmet js n job) ≡ option_map (λ (m : ℕ × JobRecord). m.0) (find (is_unmet job) (take n (numbered js)))
numbers_agree js n job = ap (option_map (λ (m : ℕ × JobRecord). m.0)) (unmet_by_both js n job)

pub unmet_told : (js : List JobRecord) (job : JobRecord) (n k : ℕ) → NoneBelow js (is_unmet job) k → k < n → is_at js k (λ x. is_unmet job (k, x)) ≡ true
    → Some k ≡ option_map (λ (m : ℕ × JobRecord). m.0) (least_unmet js n job)
unmet_told js job n k none less passes = sym (numbers_agree js n job ∙ first_passes js (is_unmet job) n k none less passes)

pub no_unmet_told : (js : List JobRecord) (job : JobRecord) (n k : ℕ) → NoneBelow js (is_unmet job) k → n ≤ k
    → None ≡ option_map (λ (m : ℕ × JobRecord). m.0) (least_unmet js n job)
no_unmet_told js job n k none all = sym (numbers_agree js n job ∙ no_passing js (is_unmet job) n k none all)

pub going_told : (js : List JobRecord) (job : JobRecord) (n k : ℕ) → NoneBelow js (is_going job) k → k < n → is_at js k (λ x. is_going job (k, x)) ≡ true
    → Some k ≡ least_going js n job
going_told js job n k none less passes = sym (first_passes js (is_going job) n k none less passes)

pub no_going_told : (js : List JobRecord) (job : JobRecord) (n k : ℕ) → NoneBelow js (is_going job) k → n ≤ k → None ≡ least_going js n job
no_going_told js job n k none all = sym (no_passing js (is_going job) n k none all)

-- ---- what is known then

known_found : (js : List JobRecord) (n : ℕ) (job : JobRecord) (test : JobRecord → ℕ × JobRecord → Bool) → slice_get js n ≡ Some job
    → IsKnownBelow js n test (unwrap_or (option_map (λ (m : ℕ × JobRecord). m.0) (find (test job) (take n (numbered js)))) n)
known_found js n job test at = by_found (find (test job) (take n (numbered js))) refl
  where
    here : n < length js
    here = slice_get_within js n job at

    of_job : (other : JobRecord) (below : ℕ) → slice_get js n ≡ Some other → NoneBelow js (test job) below → NoneBelow js (test other) below
    of_job other below there none =
        let same : job ≡ other = cc (at, there) in subst (λ (q : JobRecord). NoneBelow js (test q) below) same none

    by_found : (o : Option (ℕ × JobRecord)) → find (test job) (take n (numbered js)) ≡ o
        → IsKnownBelow js n test (unwrap_or (option_map (λ (m : ℕ × JobRecord). m.0) o) n)
    by_found None none = record {
      armed = λ some. (job, at);
      within = λ i less. omega (arith, less, here);
      none = λ other there. of_job other n there (λ i x less at_i. none_before js n (test job) i x none less at_i);
    }
    by_found (Some m) is =
        let found = first_before js n (test job) m is in
        record {
          armed = λ some. (job, at);
          within = λ i less. omega (arith, less, found.within, here);
          none = λ other there. of_job other m.0 there found.before;
        }

pub known_met : (js : List JobRecord) (n : ℕ) (job : JobRecord) → slice_get js n ≡ Some job
    → IsKnownBelow js n is_unmet (unwrap_or (option_map (λ (m : ℕ × JobRecord). m.0) (least_unmet js n job)) n)
known_met js n job at =
    subst (λ o. IsKnownBelow js n is_unmet (unwrap_or o n)) (sym (numbers_agree js n job)) (known_found js n job is_unmet at)

pub known_ended : (js : List JobRecord) (n : ℕ) (job : JobRecord) → slice_get js n ≡ Some job → IsKnownBelow js n is_going (unwrap_or (least_going js n job) n)
known_ended js n job at = known_found js n job is_going at

-- of nothing nothing is known
pub nothing_known : (js : List JobRecord) (n : ℕ) (test : JobRecord → ℕ × JobRecord → Bool) → IsKnownBelow js n test 0
nothing_known js n test = record {
  armed = λ some. absurd (omega (arith, some));
  within = λ i less. absurd (omega (arith, less));
  none = λ job at i x less there. absurd (omega (arith, less));
}

-- ---- what is known stays so

pub ended_stays : (p q : Phase) → GoesOn p q → has_ended p ≡ true → has_ended q ≡ true
ended_stays Queued q goes is = absurd (let never : false ≡ true = is in cc (never))
ended_stays Scheduled q goes is = absurd (let never : false ≡ true = is in cc (never))
ended_stays (Ended o) q goes is = ap has_ended goes

begun_stays : (p q : Phase) → GoesOn p q → is_queued p ≡ false → is_queued q ≡ false
begun_stays Queued q goes is = absurd (let never : true ≡ false = is in cc (never))
begun_stays Scheduled Queued goes is = absurd goes
begun_stays Scheduled Scheduled goes is = refl
begun_stays Scheduled (Ended o) goes is = refl
begun_stays (Ended o) q goes is = ap is_queued goes

met_stays : (ring : ℕ) (old new : JobRecord) → RecordGrows old new → is_met ring old ≡ true → is_met ring new ≡ true
met_stays ring old new grows met =
    elim (or_cases (has_ended old.phase) (not (is_queued old.phase) && (old.ring == ring)) met) [
      | inl ended ↦
          or_left (has_ended new.phase) (not (is_queued new.phase) && (new.ring == ring)) (ended_stays old.phase new.phase grows.phase ended)
      | inr begun ↦
          let parts = and_parts (not (is_queued old.phase)) (old.ring == ring) begun in
          or_right (has_ended new.phase) (not (is_queued new.phase) && (new.ring == ring))
          (and_from (not (is_queued new.phase)) (new.ring == ring)
          (not_from_false (is_queued new.phase) (begun_stays old.phase new.phase grows.phase (not-true (is_queued old.phase) parts.0)))
          (ap (λ k. k == ring) grows.ring ∙ parts.1))
    ]

-- what passes the test when both have grown passed it before
abbrev Stays : (JobRecord → ℕ × JobRecord → Bool) → Type 0
Stays test =
    (job job' x x' : JobRecord) (i : ℕ) → RecordGrows job job' → RecordGrows x x' → test job (i, x) ≡ false → test job' (i, x') ≡ false

same_follows : (job job' x x' : JobRecord) (i : ℕ) → RecordGrows job job' → RecordGrows x x' → comes_after job'.job i x'.job ≡ comes_after job.job i x.job
same_follows job job' x x' i later earlier =
    ap (λ (j : Draft). comes_after j i x'.job) later.job ∙ ap (λ (j : Draft). comes_after job.job i j) earlier.job

unmet_stays : Stays is_unmet
unmet_stays job job' x x' i later earlier fails =
    elim (cases_Bool (is_unmet job' (i, x'))) [
      | inr still ↦ still
      | inl waits ↦
          let parts = and_parts (comes_after job'.job i x'.job) (not (is_met job'.ring x')) waits in
          let unmet : is_met job'.ring x' ≡ false = not-true (is_met job'.ring x') parts.1 in
          let was : is_met job.ring x ≡ false = was_unmet (cases_Bool (is_met job.ring x)) unmet in
          absurd (both_ways (is_unmet job (i, x)) fails
          (and_from (comes_after job.job i x.job) (not (is_met job.ring x)) (sym (same_follows job job' x x' i later earlier) ∙ parts.0)
          (not_from_false (is_met job.ring x) was)))
    ]
  where
    was_unmet : (is_met job.ring x ≡ true) ⊎ (is_met job.ring x ≡ false) → is_met job'.ring x' ≡ false → is_met job.ring x ≡ false
    was_unmet (inr fails) unmet = fails
    was_unmet (inl met) unmet =
        absurd (both_ways (is_met job'.ring x') unmet (ap (λ k. is_met k x') later.ring ∙ met_stays job.ring x x' earlier met))

going_stays : Stays is_going
going_stays job job' x x' i later earlier fails =
    elim (cases_Bool (is_going job' (i, x'))) [
      | inr still ↦ still
      | inl goes ↦
          let parts = and_parts (must_follow job' i x') (not (has_ended x'.phase)) goes in
          let going : has_ended x'.phase ≡ false = not-true (has_ended x'.phase) parts.1 in
          let was : has_ended x.phase ≡ false = was_going (cases_Bool (has_ended x.phase)) going in
          absurd (both_ways (is_going job (i, x)) fails
          (and_from (must_follow job i x) (not (has_ended x.phase)) (sym follows ∙ parts.0) (not_from_false (has_ended x.phase) was)))
    ]
  where
    was_going : (has_ended x.phase ≡ true) ⊎ (has_ended x.phase ≡ false) → has_ended x'.phase ≡ false → has_ended x.phase ≡ false
    was_going (inr fails) going = fails
    was_going (inl ended) going = absurd (both_ways (has_ended x'.phase) going (ended_stays x.phase x'.phase earlier.phase ended))

    follows : must_follow job' i x' ≡ must_follow job i x
    follows =
        ap (λ b. b || (x'.job.entity == job'.job.entity)) (same_follows job job' x x' i later earlier)
        ∙ (ap (λ (j : Draft). comes_after job.job i x.job || (j.entity == job'.job.entity)) earlier.job
        ∙ ap (λ (j : Draft). comes_after job.job i x.job || (x.job.entity == j.entity)) later.job)

known_stays : (olds news : List JobRecord) (n below : ℕ) (test : JobRecord → ℕ × JobRecord → Bool) → Stays test → EachInPlace RecordGrows olds news
    → IsKnownBelow olds n test below → IsKnownBelow news n test below
known_stays olds news n below test stays grows known = record {
  armed = λ some. let (job, at) = known.armed some in let (job', at', later) = grows n job at in (job', at');
  within = λ i less.
      let (x, at) = stands_within olds i (known.within i less) in
      let (x', at', later) = grows i x at in slice_get_within news i x' at';
  none = λ other there i other' less there'.
      let (job, at) = known.armed (omega (arith, less)) in
      let (job', at', later) = grows n job at in
      let (x, at_x) = stands_within olds i (known.within i less) in
      let (x', at_x', earlier) = grows i x at_x in
      let one : job' ≡ other = cc (at', there) in
      let two : x' ≡ other' = cc (at_x', there') in
      let fails = stays job job' x x' i later earlier (known.none job at i x less at_x) in
      subst (λ (q : JobRecord). test q (i, other') ≡ false) one (subst (λ (q : JobRecord). test job' (i, q) ≡ false) two fails);
}

pub knowledge_stays : KnowledgeStays
knowledge_stays old new watch grows known = record {
  met = known_stays old.journal new.journal watch.fence watch.met is_unmet unmet_stays grows.journal known.met;
  ended = known_stays old.journal new.journal watch.fence watch.ended is_going going_stays grows.journal known.ended;
}

-- ---- the reason of the first in a queue

-- where something is found, it is the record of this number
pub waits_told : (d : DeviceState) (n number : ℕ) (job earlier : JobRecord) → Some number ≡ option_map (λ (m : ℕ × JobRecord). m.0) (least_unmet d.journal n job)
    → slice_get d.journal number ≡ Some earlier → unmet_reason job (number, earlier) ≡ head_reason d n job
waits_told d n number job earlier is at = by_found (least_unmet d.journal n job) refl is
  where
    by_found : (o : Option (ℕ × JobRecord)) → least_unmet d.journal n job ≡ o → Some number ≡ option_map (λ (m : ℕ × JobRecord). m.0) o
        → unmet_reason job (number, earlier) ≡ option_map_or (unmet_reason job) o (ready_reason d job.ring n)
    by_found None none is = absurd (let never : Some number ≡ None = is in cc (never))
    by_found (Some m) some is =
        let found = unmet_found d.journal n job m some in
        let same : number ≡ m.0 = cc (is) in
        let there : slice_get d.journal number ≡ Some m.1 = subst (λ (k : ℕ). slice_get d.journal k ≡ Some m.1) (sym same) found.unmet.at in
        let one : earlier ≡ m.1 = cc (at, there) in
        ap (λ (k : ℕ). unmet_reason job (k, earlier)) same ∙ ap (λ (q : JobRecord). unmet_reason job (m.0, q)) one

-- and stands before the job
pub found_within : (js : List JobRecord) (n number : ℕ) (job : JobRecord) → Some number ≡ option_map (λ (m : ℕ × JobRecord). m.0) (least_unmet js n job)
    → number < length js
found_within js n number job is = by_found (least_unmet js n job) refl is
  where
    by_found : (o : Option (ℕ × JobRecord)) → least_unmet js n job ≡ o → Some number ≡ option_map (λ (m : ℕ × JobRecord). m.0) o → number < length js
    by_found None none is = absurd (let never : Some number ≡ None = is in cc (never))
    by_found (Some m) some is =
        let found = unmet_found js n job m some in
        let same : number ≡ m.0 = cc (is) in subst (λ (k : ℕ). k < length js) (sym same) (slice_get_within js m.0 m.1 found.unmet.at)

-- and where nothing is found the job is ready
pub ready_told : (d : DeviceState) (n : ℕ) (job : JobRecord) → None ≡ option_map (λ (m : ℕ × JobRecord). m.0) (least_unmet d.journal n job)
    → ready_reason d job.ring n ≡ head_reason d n job
ready_told d n job is = by_found (least_unmet d.journal n job) is
  where
    by_found : (o : Option (ℕ × JobRecord)) → None ≡ option_map (λ (m : ℕ × JobRecord). m.0) o
        → ready_reason d job.ring n ≡ option_map_or (unmet_reason job) o (ready_reason d job.ring n)
    by_found None is = refl
    by_found (Some m) is = absurd (let never : None ≡ Some m.0 = is in cc (never))
