-- What one step of a core tells of jobs, and what it leaves.
use Rattle.std.proofs.Common.{◌≡◌, ℕ, zero, suc, ◌+◌, ◌<◌, ◌≤◌, Bool, true, false, List, [], ◌∷◌, ◌++◌, length, map, take, Option, Some, None, refl, sym, ap, subst, ◌∙◌, inl, inr, ◌⊎◌, arith, set, slice_get}
use Rattle.std.specs.Prelude.{Contains, not, ◌&&◌, ◌||◌, ◌==◌, nat_lt}
use Rattle.std.specs.Option.{option_map_or}
use Rattle.std.proofs.lemmas.Bool.{cases_Bool, cases_lt, eqb-true, ltb-true, and_parts}
use Rattle.std.proofs.lemmas.List.{length_push}
use Rattle.std.proofs.lemmas.Option.{slice_get_within}
use Rattle.drm_lists.proofs.Changed.{get_set_cases, get_set_same}
use Rattle.drm_lists.proofs.Places.{contains_at, from_map, get_push_cases, place_of, stands_within}
use Rattle.drm_lists.proofs.Searches.{find_first}
use Rattle.drm_types.specs.Firsts.{first}
use Rattle.drm_types.specs.declared.outcome.Outcome.{Outcome}
use Rattle.drm_types.specs.declared.outcome.Outcome.TheVariants as outcome
use Rattle.drm_job.specs.declared.Draft.{Draft}
use Rattle.drm_fence.specs.declared.phase.Phase.{Phase}
use Rattle.drm_fence.specs.declared.phase.Phase.TheVariants.{Queued, Scheduled, Ended}
use Rattle.drm_fence.specs.Phases.{has_ended, is_queued}
use Rattle.drm_trace.specs.declared.event.Place.{Place}
use Rattle.drm_trace.specs.declared.event.What.{What}
use Rattle.drm_trace.specs.declared.event.What.TheVariants as does
use Rattle.drm_state.specs.declared.answer.Answer.{Answer}
use Rattle.drm_state.specs.declared.answer.Answer.TheVariants as answer
use Rattle.drm_state.specs.declared.journal.JobRecord.{JobRecord}
use Rattle.drm_state.specs.State.{DeviceState}
use Rattle.drm_state.specs.Arming.{armed_device, new_record}
use Rattle.drm_state.specs.Choice.{choice, queue_of}
use Rattle.drm_state.specs.Grows.{EachInPlace, GoesOn, RecordGrows}
use Rattle.drm_state.specs.Journal.{changed_at, is_at, numbered}
use Rattle.drm_state.specs.Order.{comes_after, dependencies, is_met}
use Rattle.drm_state.specs.Outcomes.{at_record, cancelled_device, condemned, condemned_device, ended_at, final_outcome, finished_device, hung, hung_device, must_stall, picked_device, ran_device, step_outcome, stepped_by, timeout_outcome}
use Rattle.drm_state.specs.Ring.{current_of, head_of, is_guilty}
use Rattle.drm_state.specs.Steady.{IsSteady}
use Rattle.drm_state.proofs.ChoiceIs.{IsChosen, choice_is, first-filter, in_filter, is_queued_of, numbered_get}
use Rattle.drm_state.proofs.FinishLawful.{head_is}
use Rattle.drm_state.proofs.Records.{changed_is}
use Rattle.drm_core.specs.declared.event.Event.{Event}
use Rattle.drm_core.specs.declared.event.Event.TheVariants as event
use Rattle.drm_core.specs.State.{CoreState}
use Rattle.drm_core.specs.Context.{context_of, holder_of, ticket_of, with_holder}
use Rattle.drm_core.specs.Names.{names_exist}
use Rattle.drm_core.specs.Outcomes.{armed_core, context_changed, outcome_of_event}
use Rattle.drm_core.specs.Refusals.{plan_of}
use Rattle.drm_core.specs.Step.{Step}
use Rattle.drm_core.specs.Steady.{IsSteadyCore}
use Rattle.drm_core.proofs.HeadlineSteps.{at_any_record, at_cond, at_option, at_timeout, cases_step}
use Rattle.drm_conform_laws.specs.RunLogs.{lines_of, place_of as place_in, queued_lines, run_lines}
use Rattle.drm_conform_laws.proofs.LineLists.{taken_at}

-- ---- what an entry says of a device

-- an entry may come in a run from this device
abbrev pub May : DeviceState → ℕ → What → Type 0
May d f (does.Queued p) = length d.journal ≤ f
May d f (does.Ran p) =
    ((k : ℕ) (r : JobRecord) → slice_get d.journal k ≡ Some r → is_queued r.phase ≡ false → k ≡ f → ⊥)
    × ((k : ℕ) (r : JobRecord) → slice_get d.journal k ≡ Some r → r.job.entity ≡ p.entity → is_queued r.phase ≡ false → k < f)
May d f (does.Waits on) = Unit {0}
May d f does.Ended = (r : JobRecord) → slice_get d.journal f ≡ Some r → has_ended r.phase ≡ false

-- the device is one behind this entry
abbrev pub Left : DeviceState → ℕ → What → Type 0
Left d f (does.Queued p) = f < length d.journal
Left d f (does.Ran p) = (r : JobRecord) × (slice_get d.journal f ≡ Some r) × (r.job.entity ≡ p.entity) × (is_queued r.phase ≡ false)
Left d f (does.Waits on) = Unit {0}
Left d f does.Ended = (r : JobRecord) × (slice_get d.journal f ≡ Some r) × (has_ended r.phase ≡ true)

-- an entry is true of the jobs of a journal
abbrev pub Told : List JobRecord → ℕ → What → Type 0
Told journal f (does.Queued p) = p.number ≡ f
Told journal f (does.Ran p) =
    (p.number ≡ f) × ((r : JobRecord) × (slice_get journal f ≡ Some r) × (p.entity ≡ r.job.entity) × (p.ring ≡ r.ring))
Told journal f (does.Waits on) =
    (on < f) × ((r : JobRecord) × (slice_get journal f ≡ Some r) × ((x : JobRecord) × (slice_get journal on ≡ Some x) × (comes_after r.job on x.job ≡ true)))
Told journal f does.Ended = Unit {0}

-- two entries of a log, the earlier first
abbrev pub After : ℕ → What → ℕ → What → Type 0
After f (does.Queued p) g (does.Queued q) = f < g
After f (does.Queued p) g (does.Ran q) = Unit {0}
After f (does.Queued p) g (does.Waits on) = Unit {0}
After f (does.Queued p) g does.Ended = Unit {0}
After f (does.Ran p) g (does.Queued q) = f < g
After f (does.Ran p) g (does.Ran q) = (f ≡ g → ⊥) × (p.entity ≡ q.entity → f < g)
After f (does.Ran p) g (does.Waits on) = Unit {0}
After f (does.Ran p) g does.Ended = Unit {0}
After f (does.Waits on) g (does.Queued q) = Unit {0}
After f (does.Waits on) g (does.Ran q) = Unit {0}
After f (does.Waits on) g (does.Waits other) = Unit {0}
After f (does.Waits on) g does.Ended = Unit {0}
After f does.Ended g (does.Queued q) = Unit {0}
After f does.Ended g (does.Ran q) = f ≡ g → ⊥
After f does.Ended g (does.Waits on) = Unit {0}
After f does.Ended g does.Ended = f ≡ g → ⊥

-- what a device knows of a job that another waits for where it runs on a ring: it has ended, or has begun on this ring
abbrev pub IsMetIn : DeviceState → ℕ → ℕ → JobRecord → Type 0
IsMetIn d ring on x =
    ((y : JobRecord) × (slice_get d.journal on ≡ Some y) × (has_ended y.phase ≡ true))
    ⊎ ((x.ring ≡ ring) × ((y : JobRecord) × (slice_get d.journal on ≡ Some y) × (is_queued y.phase ≡ false)))

-- where an entry runs a job, all is met that the job comes after
abbrev pub FindsMet : List JobRecord → DeviceState → ℕ → What → Type 0
FindsMet journal d f (does.Queued p) = Unit {0}
FindsMet journal d f (does.Ran p) = (on : ℕ) (r x : JobRecord) → on < f → slice_get journal f ≡ Some r → slice_get journal on ≡ Some x
    → comes_after r.job on x.job ≡ true → IsMetIn d p.ring on x
FindsMet journal d f (does.Waits on) = Unit {0}
FindsMet journal d f does.Ended = Unit {0}

-- a job that has ended had before, or an entry tells it
abbrev pub EndsTold : DeviceState → DeviceState → List (ℕ × What) → Type 0
EndsTold old new ts = (f : ℕ) (q : JobRecord) → slice_get new.journal f ≡ Some q → has_ended q.phase ≡ true
    → ((r : JobRecord) × (slice_get old.journal f ≡ Some r) × (has_ended r.phase ≡ true)) ⊎ Contains ts (f, does.Ended)

-- what a step tells, by the journal of all that come
pub record StepTells (journal : List JobRecord) (old new : DeviceState) (ts : List (ℕ × What)) : Type 0 where
  pub may : (i : ℕ) (t : ℕ × What) → slice_get ts i ≡ Some t → May old t.0 t.1
  pub left : (i : ℕ) (t : ℕ × What) → slice_get ts i ≡ Some t → Left new t.0 t.1
  pub told : (i : ℕ) (t : ℕ × What) → slice_get ts i ≡ Some t → Told journal t.0 t.1
  pub met : (i : ℕ) (t : ℕ × What) → slice_get ts i ≡ Some t → FindsMet journal old t.0 t.1
  pub pairs : (i j : ℕ) (t u : ℕ × What) → i < j → slice_get ts i ≡ Some t → slice_get ts j ≡ Some u → After t.0 t.1 u.0 u.1
  pub runs : (i g : ℕ) (q : Place) → slice_get ts i ≡ Some (g, does.Ran q) → i ≡ 0
  pub ends : EndsTold old new ts

abbrev pub Grown : List JobRecord → List JobRecord → Type 0
Grown old new = EachInPlace RecordGrows old new

-- ---- phases

pub begun_on : (p q : Phase) → GoesOn p q → is_queued p ≡ false → is_queued q ≡ false
begun_on Queued q goes begun = absurd (let never : true ≡ false = begun in cc (never))
begun_on Scheduled Queued goes begun = absurd goes
begun_on Scheduled Scheduled goes begun = refl
begun_on Scheduled (Ended o) goes begun = refl
begun_on (Ended o) q goes begun = ap is_queued goes

pub not_ended_yet : (p q : Phase) → GoesOn p q → has_ended q ≡ false → has_ended p ≡ false
not_ended_yet Queued q goes is = refl
not_ended_yet Scheduled q goes is = refl
not_ended_yet (Ended o) q goes is = absurd (let never : true ≡ false = sym (ap has_ended goes) ∙ is in cc (never))

pub ended_begun : (p : Phase) → has_ended p ≡ true → is_queued p ≡ false
ended_begun Queued is = absurd (let never : false ≡ true = is in cc (never))
ended_begun Scheduled is = refl
ended_begun (Ended o) is = refl

queued_not_ended : (p : Phase) → is_queued p ≡ true → has_ended p ≡ false
queued_not_ended Queued is = refl
queued_not_ended Scheduled is = refl
queued_not_ended (Ended o) is = absurd (let never : false ≡ true = is in cc (never))

-- ---- steps that tell nothing

-- no job ended
abbrev EndsStay : DeviceState → DeviceState → Type 0
EndsStay old new = (f : ℕ) (q : JobRecord) → slice_get new.journal f ≡ Some q → has_ended q.phase ≡ true
    → (r : JobRecord) × (slice_get old.journal f ≡ Some r) × (has_ended r.phase ≡ true)

quiet : (journal : List JobRecord) (old new : DeviceState) → EndsStay old new → StepTells journal old new []
quiet journal old new stay = record {
  may = λ i t at. absurd (cc (at));
  left = λ i t at. absurd (cc (at));
  told = λ i t at. absurd (cc (at));
  met = λ i t at. absurd (cc (at));
  pairs = λ i j t u lt at also. absurd (cc (at));
  runs = λ i g q at. absurd (cc (at));
  ends = λ f q at ended. inl (stay f q at ended);
}

-- a change of a record that keeps its phase
ends_stay_at : (old : DeviceState) (new : DeviceState) (f : ℕ) (change : JobRecord → JobRecord) → ((r : JobRecord) → (change r).phase ≡ r.phase)
    → new.journal ≡ changed_at old.journal f change → EndsStay old new
ends_stay_at old new f change same is k q at ended = by_record (slice_get old.journal f) refl (subst (λ (js : List JobRecord). slice_get js k ≡ Some q) is at)
  where
    by_record : (o : Option JobRecord) → slice_get old.journal f ≡ o → slice_get (option_map_or (λ r. set old.journal f (change r)) o old.journal) k ≡ Some q
        → (r : JobRecord) × (slice_get old.journal k ≡ Some r) × (has_ended r.phase ≡ true)
    by_record None none there = (q, there, ended)
    by_record (Some r) some there = elim (get_set_cases old.journal f k r (change r) q some there) [
      | inl here ↦
          let phases : q.phase ≡ r.phase = ap (λ (x : JobRecord). x.phase) here.1 ∙ same r in
          (r, ap (slice_get old.journal) here.0 ∙ some, ap has_ended (sym phases) ∙ ended)
      | inr other ↦ (q, other.1, ended)
    ]

ends_stay_same : (d : DeviceState) → EndsStay d d
ends_stay_same d f q at ended = (q, at, ended)

-- ---- one entry

one_at : (t u : ℕ × What) (i : ℕ) → slice_get (t ∷ []) i ≡ Some u → (i ≡ 0) × (t ≡ u)
one_at t u zero at = (refl, cc (at))
one_at t u (suc i) at = absurd (cc (at))

one_told : (journal : List JobRecord) (old new : DeviceState) (f : ℕ) (w : What) → May old f w → Left new f w → Told journal f w → FindsMet journal old f w
    → EndsTold old new ((f, w) ∷ []) → StepTells journal old new ((f, w) ∷ [])
one_told journal old new f w may left told met ends = record {
  may = λ i t at. subst (λ (u : ℕ × What). May old u.0 u.1) (one_at (f, w) t i at).1 may;
  left = λ i t at. subst (λ (u : ℕ × What). Left new u.0 u.1) (one_at (f, w) t i at).1 left;
  told = λ i t at. subst (λ (u : ℕ × What). Told journal u.0 u.1) (one_at (f, w) t i at).1 told;
  met = λ i t at. subst (λ (u : ℕ × What). FindsMet journal old u.0 u.1) (one_at (f, w) t i at).1 met;
  pairs = λ i j t u lt at also. let first = (one_at (f, w) t i at).0 in let second = (one_at (f, w) u j also).0 in absurd (omega (arith, lt, first, second));
  runs = λ i g q at. (one_at (f, w) (g, does.Ran q) i at).0;
  ends = ends;
}

-- ---- a job is armed

last_of : (xs : List JobRecord) (x : JobRecord) → slice_get (xs ++ x ∷ []) (length xs) ≡ Some x
last_of [] x = refl
last_of (y ∷ xs) x = last_of xs x

-- what a job comes after has a lesser number
depends : (journal : List JobRecord) (f : ℕ) (job : Draft) (k : ℕ) (n : ℕ × JobRecord) → slice_get (dependencies journal f job) k ≡ Some n
    → (n.0 < f) × (slice_get journal n.0 ≡ Some n.1) × (comes_after job n.0 n.1.job ≡ true)
depends journal f job k n at =
    let test : ℕ × JobRecord → Bool = λ m. comes_after job m.0 m.1.job in
    let inside = in_filter test (take f (numbered journal)) n (contains_at (dependencies journal f job) k n at) in
    let place = place_of (take f (numbered journal)) n inside.0 in
    let taken = taken_at (numbered journal) f place.0 n place.1 in
    let number = numbered_get journal 0 place.0 n taken.1 in
    let same : place.0 ≡ n.0 = omega (arith, number.0) in
    (omega (arith, same, taken.0), subst (λ (m : ℕ). slice_get journal m ≡ Some n.1) same number.1, inside.1)

arm_tells : (journal : List JobRecord) (old new : DeviceState) (job : Draft) → new.journal ≡ old.journal ++ new_record old job ∷ [] → Grown new.journal journal
    → StepTells journal old new (queued_lines journal (length old.journal) (slice_get journal (length old.journal)))
arm_tells journal old new job is grown =
    subst (λ (o : Option JobRecord). StepTells journal old new (queued_lines journal f o)) (sym there.1) (record {
      may = λ i t at. every i t at (λ u. May old u.0 u.1) (omega arith) (λ n. tt);
      left = λ i t at. every i t at (λ u. Left new u.0 u.1) (omega (arith, ap (λ (js : List JobRecord). length js) is, length_push old.journal (new_record old job))) (λ n. tt);
      told = λ i t at. every_told i t at;
      met = λ i t at. every i t at (λ u. FindsMet journal old u.0 u.1) tt (λ n. tt);
      pairs = pairs;
      runs = λ i g q at. no_run i g q at;
      ends = λ k q at ended. inl (stay k q (subst (λ (js : List JobRecord). slice_get js k ≡ Some q) is at) ended);
    })
  where
    f : ℕ
    f = length old.journal

    here : slice_get new.journal f ≡ Some (new_record old job)
    here = subst (λ (js : List JobRecord). slice_get js f ≡ Some (new_record old job)) (sym is) (last_of old.journal (new_record old job))

    there : (r : JobRecord) × (slice_get journal f ≡ Some r) × RecordGrows (new_record old job) r
    there = grown f (new_record old job) here

    r : JobRecord
    r = there.0

    wait : ℕ × JobRecord → ℕ × What
    wait earlier = (f, does.Waits earlier.0)

    every : (i : ℕ) (t : ℕ × What) → slice_get (queued_lines journal f (Some r)) i ≡ Some t → (P : ℕ × What → Type 0) → P (f, does.Queued (place_in r f r.ring))
        → ((n : ℕ × JobRecord) → P (wait n)) → P t
    every zero t at P first rest = let same : ◌≡◌ {A = ℕ × What} (f, does.Queued (place_in r f r.ring)) t = cc (at) in subst P same first
    every (suc i) t at P first rest = let found = from_map wait (dependencies journal f r.job) i t at in subst P (sym found.2) (rest found.0)

    every_told : (i : ℕ) (t : ℕ × What) → slice_get (queued_lines journal f (Some r)) i ≡ Some t → Told journal t.0 t.1
    every_told zero t at =
        let same : ◌≡◌ {A = ℕ × What} (f, does.Queued (place_in r f r.ring)) t = cc (at) in subst (λ (u : ℕ × What). Told journal u.0 u.1) same refl
    every_told (suc i) t at =
        let found = from_map wait (dependencies journal f r.job) i t at in
        let on = depends journal f r.job i found.0 found.1 in
        subst (λ (u : ℕ × What). Told journal u.0 u.1) (sym found.2) (on.0, (r, there.1, (found.0.1, on.1, on.2)))

    no_run : (i g : ℕ) (q : Place) → slice_get (queued_lines journal f (Some r)) i ≡ Some (g, does.Ran q) → i ≡ 0
    no_run zero g q at = refl
    no_run (suc i) g q at =
        let found = from_map wait (dependencies journal f r.job) i (g, does.Ran q) at in
        let never : does.Ran q ≡ does.Waits found.0.0 = ap (λ (u : ℕ × What). u.1) found.2 in absurd (cc (never))

    after_any : (k : ℕ) (w : What) (g on : ℕ) → After k w g (does.Waits on)
    after_any k (does.Queued p) g on = tt
    after_any k (does.Ran p) g on = tt
    after_any k (does.Waits other) g on = tt
    after_any k does.Ended g on = tt

    pairs : (i j : ℕ) (t u : ℕ × What) → i < j → slice_get (queued_lines journal f (Some r)) i ≡ Some t → slice_get (queued_lines journal f (Some r)) j ≡ Some u
        → After t.0 t.1 u.0 u.1
    pairs i zero t u lt at also = absurd (omega (arith, lt))
    pairs i (suc j) t u lt at also =
        let found = from_map wait (dependencies journal f r.job) j u also in
        subst (λ (v : ℕ × What). After t.0 t.1 v.0 v.1) (sym found.2) (after_any t.0 t.1 f found.0.0)

    stay : (k : ℕ) (q : JobRecord) → slice_get (old.journal ++ new_record old job ∷ []) k ≡ Some q → has_ended q.phase ≡ true
        → (x : JobRecord) × (slice_get old.journal k ≡ Some x) × (has_ended x.phase ≡ true)
    stay k q at ended = elim (get_push_cases old.journal (new_record old job) k q at) [
      | inl before ↦ (q, before, ended)
      | inr last ↦ absurd (let never : false ≡ true = sym (ap (λ (x : JobRecord). has_ended x.phase) last.1) ∙ ended in cc (never))
    ]

-- ---- a job is picked

pub begun_is : (b : Bool) → b ≡ true → b ≡ false → ⊥
begun_is true is other = let never : true ≡ false = other in cc (never)
begun_is false is other = let never : false ≡ true = is in cc (never)

met_in : (d : DeviceState) (ring on : ℕ) (x y : JobRecord) → slice_get d.journal on ≡ Some y → x.ring ≡ y.ring → is_met ring y ≡ true → IsMetIn d ring on x
met_in d ring on x y at rings met = elim (cases_Bool (has_ended y.phase)) [
  | inl ended ↦ inl (y, at, ended)
  | inr not_ended ↦
      let second : (not (is_queued y.phase) && (y.ring == ring)) ≡ true = sym (ap (λ (b : Bool). b || (not (is_queued y.phase) && (y.ring == ring))) not_ended) ∙ met in
      let parts = and_parts (not (is_queued y.phase)) (y.ring == ring) second in
      inr (rings ∙ eqb-true y.ring ring parts.1, (y, at, by_not (is_queued y.phase) parts.0))
]
  where
    by_not : (b : Bool) → not b ≡ true → b ≡ false
    by_not true is = absurd (let never : false ≡ true = is in cc (never))
    by_not false is = refl

pick_tells : (journal : List JobRecord) (d : DeviceState) (ring now f : ℕ) (r : JobRecord) → IsSteady d → IsChosen d ring f r → Grown (picked_device d ring now f).journal journal
    → Grown d.journal journal → StepTells journal d (picked_device d ring now f) (run_lines f ring (slice_get journal f))
pick_tells journal d ring now f r steady chosen grown from_old =
    subst (λ (o : Option JobRecord). StepTells journal d new (run_lines f ring o)) (sym there.1)
    (one_told journal d new f (does.Ran (place_in last f ring)) (not_begun, before) (picked r, at_new, sym entity, refl)
    (refl, (last, there.1, refl, sym chosen.on_ring ∙ sym there.2.ring)) met ends)
  where
    new : DeviceState
    new = picked_device d ring now f

    picked : JobRecord → JobRecord
    picked x = record x { phase = Scheduled; is_skipped = is_guilty d x.job.entity || x.is_skipped }

    set_is : new.journal ≡ set d.journal f (picked r)
    set_is = changed_is d.journal f r picked chosen.at

    at_new : slice_get new.journal f ≡ Some (picked r)
    at_new = subst (λ (js : List JobRecord). slice_get js f ≡ Some (picked r)) (sym set_is) (get_set_same d.journal f r (picked r) chosen.at)

    there : (x : JobRecord) × (slice_get journal f ≡ Some x) × RecordGrows (picked r) x
    there = grown f (picked r) at_new

    last : JobRecord
    last = there.0

    entity : last.job.entity ≡ r.job.entity
    entity = ap (λ (j : Draft). j.entity) there.2.job

    not_begun : (k : ℕ) (x : JobRecord) → slice_get d.journal k ≡ Some x → is_queued x.phase ≡ false → k ≡ f → ⊥
    not_begun k x at begun same =
        let one : x ≡ r = (let both : Some x ≡ Some r = sym at ∙ ap (slice_get d.journal) same ∙ chosen.at in cc (both)) in
        begun_is (is_queued r.phase) chosen.queued (ap (λ (y : JobRecord). is_queued y.phase) (sym one) ∙ begun)

    before : (k : ℕ) (x : JobRecord) → slice_get d.journal k ≡ Some x → x.job.entity ≡ last.job.entity → is_queued x.phase ≡ false → k < f
    before k x at same begun = elim (cases_lt k f) [
      | inl less ↦ less
      | inr le ↦ elim (cases_lt f k) [
        | inl more ↦
            let order = steady.lawful.entities f k r x more chosen.at at in
            absurd (begun_is (is_queued r.phase) chosen.queued (order.begun (sym entity ∙ sym same) begun))
        | inr ge ↦ absurd (not_begun k x at begun (omega (arith, le, ge)))
      ]
    ]

    met : (on : ℕ) (x y : JobRecord) → on < f → slice_get journal f ≡ Some x → slice_get journal on ≡ Some y → comes_after x.job on y.job ≡ true → IsMetIn d ring on y
    met on x y lt at_f at_on comes =
        let within : f < length d.journal = slice_get_within d.journal f r chosen.at in
        let old = stands_within d.journal on (omega (arith, lt, within)) in
        let grew = from_old on old.0 old.1 in
        let same_on : grew.0 ≡ y = (let both : Some grew.0 ≡ Some y = sym grew.1 ∙ at_on in cc (both)) in
        let same_f : last ≡ x = (let both : Some last ≡ Some x = sym there.1 ∙ at_f in cc (both)) in
        let job_on : y.job ≡ old.0.job = ap (λ (z : JobRecord). z.job) (sym same_on) ∙ grew.2.job in
        let job_f : x.job ≡ r.job = ap (λ (z : JobRecord). z.job) (sym same_f) ∙ there.2.job in
        let ring_on : y.ring ≡ old.0.ring = ap (λ (z : JobRecord). z.ring) (sym same_on) ∙ grew.2.ring in
        let comes_old : comes_after r.job on old.0.job ≡ true = ap (λ (j : Draft). comes_after j on old.0.job) (sym job_f) ∙ ap (λ (j : Draft). comes_after x.job on j) (sym job_on) ∙ comes in
        let is_so : is_met ring old.0 ≡ true = ap (λ (n : ℕ). is_met n old.0) (sym chosen.on_ring) ∙ chosen.met on old.0 lt old.1 comes_old in
        met_in d ring on y old.0 old.1 ring_on is_so

    ends : EndsTold d new ((f, does.Ran (place_in last f ring)) ∷ [])
    ends k q at ended = elim (get_set_cases d.journal f k r (picked r) q chosen.at (subst (λ (js : List JobRecord). slice_get js k ≡ Some q) set_is at)) [
      | inl here ↦ absurd (let never : false ≡ true = sym (ap (λ (x : JobRecord). has_ended x.phase) here.1) ∙ ended in cc (never))
      | inr other ↦ inl (q, other.1, ended)
    ]

-- ---- a job ends

end_tells : (journal : List JobRecord) (d new : DeviceState) (f : ℕ) (r : JobRecord) (o : Outcome) → slice_get d.journal f ≡ Some r → has_ended r.phase ≡ false
    → new.journal ≡ ended_at d.journal f o → StepTells journal d new ((f, does.Ended) ∷ [])
end_tells journal d new f r o at not_ended is = one_told journal d new f does.Ended may (over r, at_new, refl) tt tt ends
  where
    over : JobRecord → JobRecord
    over x = record x { phase = Ended o }

    set_is : new.journal ≡ set d.journal f (over r)
    set_is = is ∙ changed_is d.journal f r over at

    at_new : slice_get new.journal f ≡ Some (over r)
    at_new = subst (λ (js : List JobRecord). slice_get js f ≡ Some (over r)) (sym set_is) (get_set_same d.journal f r (over r) at)

    may : (x : JobRecord) → slice_get d.journal f ≡ Some x → has_ended x.phase ≡ false
    may x at_x = let one : x ≡ r = (let both : Some x ≡ Some r = sym at_x ∙ at in cc (both)) in ap (λ (y : JobRecord). has_ended y.phase) one ∙ not_ended

    ends : EndsTold d new ((f, does.Ended) ∷ [])
    ends k q at_k ended = elim (get_set_cases d.journal f k r (over r) q at (subst (λ (js : List JobRecord). slice_get js k ≡ Some q) set_is at_k)) [
      | inl here ↦ inr (contains_at ((f, does.Ended) ∷ []) 0 (k, does.Ended) (ap (λ (n : ℕ). Some (n, does.Ended)) (sym here.0)))
      | inr other ↦ inl (q, other.1, ended)
    ]

-- ---- each event

-- a journal whose records are changed without their phases
ends_stay_map : (old mid new : DeviceState) (change : JobRecord → JobRecord) → ((r : JobRecord) → (change r).phase ≡ r.phase) → new.journal ≡ map change mid.journal
    → EndsStay old mid → EndsStay old new
ends_stay_map old mid new change same is stay k q at ended =
    let found = from_map change mid.journal k q (subst (λ (js : List JobRecord). slice_get js k ≡ Some q) is at) in
    let phases : q.phase ≡ found.0.phase = ap (λ (x : JobRecord). x.phase) found.2 ∙ same found.0 in
    stay k found.0 found.1 (ap has_ended (sym phases) ∙ ended)

-- what a step tells, where the journal of all that come grows from that before it and from that behind it
abbrev TellsOf : List JobRecord → CoreState → Event Draft → Answer × CoreState → Type 0
TellsOf journal s e p = Grown s.device.journal journal → Grown p.1.device.journal journal → StepTells journal s.device p.1.device (lines_of journal e p.0)

-- the same of a device
abbrev TellsIn : List JobRecord → DeviceState → Event Draft → Answer × DeviceState → Type 0
TellsIn journal d e p = Grown d.journal journal → Grown p.1.journal journal → StepTells journal d p.1 (lines_of journal e p.0)

-- how a pick answers, by the job that it takes
abbrev picks_by : DeviceState → ℕ → ℕ → Option ℕ → Answer × DeviceState
picks_by d ring now o =
    at_record d (λ number r. (answer.Picked number (is_guilty d r.job.entity), picked_device d ring now number)) (answer.Ok, d) o

-- how a finish answers, by the head
abbrev finishes_by : DeviceState → ℕ → ℕ → Option ℕ → Answer × DeviceState
finishes_by d ring now o =
    at_record d (λ number r. (answer.Finished number (final_outcome r), finished_device d ring now number (final_outcome r))) (answer.Ok, d) o

-- how a reaping answers, by the first of the queue
abbrev reaps_by : DeviceState → Option (ℕ × JobRecord) → Answer × DeviceState
reaps_by d o =
    option_map_or {U = Answer × DeviceState} (λ n. (answer.Reaped n.0, record d { journal = ended_at d.journal n.0 outcome.Stopped })) o (answer.Ok, d)

module _ (journal : List JobRecord) where
  still : (d : DeviceState) → StepTells journal d d []
  still d = quiet journal d d (ends_stay_same d)

  pick_by : (d : DeviceState) (ring now : ℕ) (o : Option ℕ) → IsSteady d → choice d ring ≡ o → TellsIn journal d (event.Pick ring now) (picks_by d ring now o)
  pick_by d ring now None steady is = λ from to. still d
  pick_by d ring now (Some f) steady is =
      let chosen = choice_is d ring f is in
      subst (λ (o : Option JobRecord). TellsIn journal d (event.Pick ring now)
      (option_map_or {U = Answer × DeviceState} (λ (r : JobRecord). (answer.Picked f (is_guilty d r.job.entity), picked_device d ring now f)) o (answer.Ok, d)))
      (sym chosen.1.at) (λ from to. pick_tells journal d ring now f chosen.0 steady chosen.1 to from)

  finish_by : (d : DeviceState) (ring now : ℕ) (o : Option ℕ) → IsSteady d → ring < length d.spec.rings → head_of d ring ≡ o
      → TellsIn journal d (event.Finish ring now) (finishes_by d ring now o)
  finish_by d ring now None steady here is = λ from to. still d
  finish_by d ring now (Some f) steady here is =
      let head = head_is d ring f steady.lawful here is in
      let not_ended : has_ended head.0.phase ≡ false = ap has_ended head.1.phase in
      subst (λ (o : Option JobRecord). TellsIn journal d (event.Finish ring now)
      (option_map_or {U = Answer × DeviceState} (λ (r : JobRecord). (answer.Finished f (final_outcome r), finished_device d ring now f (final_outcome r))) o (answer.Ok, d)))
      (sym head.1.at) (λ from to. end_tells journal d (finished_device d ring now f (final_outcome head.0)) f head.0 (final_outcome head.0) head.1.at not_ended refl)

  reap_by : (d : DeviceState) (entity : ℕ) (o : Option (ℕ × JobRecord)) → first (queue_of entity d.journal) ≡ o → TellsIn journal d (event.Reap entity) (reaps_by d o)
  reap_by d entity None is = λ from to. still d
  reap_by d entity (Some n) is =
      let found = find_first (is_queued_of entity) (numbered d.journal) n (sym (first-filter (is_queued_of entity) (numbered d.journal)) ∙ is) in
      let number = numbered_get d.journal 0 found.0 n found.1 in
      let same : found.0 ≡ n.0 = omega (arith, number.0) in
      let at : slice_get d.journal n.0 ≡ Some n.1 = subst (λ (m : ℕ). slice_get d.journal m ≡ Some n.1) same number.1 in
      let queued = (and_parts (n.1.job.entity == entity) (is_queued n.1.phase) found.2).1 in
      λ from to. end_tells journal d (record d { journal = ended_at d.journal n.0 outcome.Stopped }) n.0 n.1 outcome.Stopped at (queued_not_ended n.1.phase queued) refl

  timeout_by : (d : DeviceState) (ring now : ℕ) → TellsIn journal d (event.Timeout ring now) (timeout_outcome d ring now)
  timeout_by d ring now =
      at_timeout (TellsIn journal d (event.Timeout ring now)) d ring now (λ a. λ from to. still d) (λ from to. still d) (λ from to. still d)
      (λ f. λ from to. quiet journal d (hung_device d ring now f) (hangs f))
      (λ f e. λ from to. quiet journal d (condemned_device (hung_device d ring now f) ring e)
      (ends_stay_map d (hung_device d ring now f) (condemned_device (hung_device d ring now f) ring e) (condemned ring e) (λ r. refl) refl (hangs f)))
    where
      hangs : (f : ℕ) → EndsStay d (hung_device d ring now f)
      hangs f = ends_stay_at d (hung_device d ring now f) f (hung d) (λ r. refl) refl

  step_by : (d : DeviceState) (ring : ℕ) → TellsIn journal d (event.Step ring) (step_outcome d ring)
  step_by d ring =
      at_any_record (TellsIn journal d (event.Step ring)) d _ (answer.Ok, d) (current_of d ring) (λ from to. still d)
      (λ f r. at_option (TellsIn journal d (event.Step ring)) (stepped_by d f) (slice_get r.job.packets r.ran) (answer.Ok, d) (λ from to. still d)
      (λ p. at_cond (TellsIn journal d (event.Step ring)) (is_at d.journal f (λ r. must_stall p r.karma.resets)) (answer.Stalled f, d)
      (answer.Ran f (option_map_or (λ r. r.ran) (slice_get d.journal f) 0), ran_device d f p) (λ from to. still d)
      (λ from to. quiet journal d (ran_device d f p) (ends_stay_at d (ran_device d f p) f (λ r. record r { ran = r.ran + 1 }) (λ r. refl) refl))))

  arm_by : (s : CoreState) (ctx : ℕ) (o : Option Draft) → TellsOf journal s (event.Arm ctx) (option_map_or {U = Answer × CoreState}
      (λ job. (answer.Armed (length s.device.journal), context_changed (armed_core s job) ctx (λ c. record c { plan = None })))
      o
      (answer.Ok, s))
  arm_by s ctx None = λ from to. still s.device
  arm_by s ctx (Some job) =
      at_option (λ (n : CoreState). TellsOf journal s (event.Arm ctx) (answer.Armed (length s.device.journal), n)) _ (context_of s ctx) (armed_core s job)
      (λ from to. arm_tells journal s.device (armed_device s.device job) job refl to) (λ c. λ from to. arm_tells journal s.device (armed_device s.device job) job refl to)

  outcome_tells : (s : CoreState) (e : Event Draft) → IsSteadyCore s → names_exist s.device.spec e ≡ true → TellsOf journal s e (outcome_of_event s e)
  outcome_tells s (event.Submit draft) steady there = λ from to. arm_tells journal s.device (armed_device s.device draft) draft refl to
  outcome_tells s (event.Begin ctx) steady there = λ from to. still s.device
  outcome_tells s (event.Try ctx b) steady there =
      at_option (TellsOf journal s (event.Try ctx b)) _ (holder_of s b) (answer.Held, with_holder s b (Some ctx)) (λ from to. still s.device)
      (λ h. at_cond (TellsOf journal s (event.Try ctx b)) (nat_lt (ticket_of s h) (ticket_of s ctx))
      (answer.Older (ticket_of s h), s) (answer.Younger (ticket_of s h), s) (λ from to. still s.device) (λ from to. still s.device))
  outcome_tells s (event.Done ctx) steady there =
      at_option (λ (n : CoreState). TellsOf journal s (event.Done ctx) (answer.Ok, n)) _ (context_of s ctx) s (λ from to. still s.device) (λ c. λ from to. still s.device)
  outcome_tells s (event.Drop ctx b) steady there =
      at_option (λ (n : CoreState). TellsOf journal s (event.Drop ctx b) (answer.Ok, n)) _ (context_of s ctx) (with_holder s b None) (λ from to. still s.device) (λ c. λ from to. still s.device)
  outcome_tells s (event.End ctx) steady there = λ from to. still s.device
  outcome_tells s (event.Plan ctx draft) steady there =
      at_option (λ (n : CoreState). TellsOf journal s (event.Plan ctx draft) (answer.Planned, n)) _ (context_of s ctx) s (λ from to. still s.device) (λ c. λ from to. still s.device)
  outcome_tells s (event.Arm ctx) steady there = arm_by s ctx (plan_of s ctx)
  outcome_tells s (event.Pick ring now) steady there = pick_by s.device ring now (choice s.device ring) steady.device refl
  outcome_tells s (event.Step ring) steady there = step_by s.device ring
  outcome_tells s (event.Finish ring now) steady there =
      finish_by s.device ring now (head_of s.device ring) steady.device (ltb-true ring (length s.device.spec.rings) there) refl
  outcome_tells s (event.Timeout ring now) steady there = timeout_by s.device ring now
  outcome_tells s (event.Cancel entity) steady there = λ from to. quiet journal s.device (cancelled_device s.device entity) (λ f q at ended. (q, at, ended))
  outcome_tells s (event.Reap entity) steady there = reap_by s.device entity (first (queue_of entity s.device.journal)) refl
  outcome_tells s (event.Read ctx b) steady there = λ from to. still s.device
  outcome_tells s (event.Status f) steady there = λ from to. still s.device
  outcome_tells s (event.Dump b) steady there = λ from to. still s.device

  -- what a step tells of a steady core
  pub step_tells : (s : CoreState) (e : Event Draft) (a : Answer) (n : CoreState) → IsSteadyCore s → names_exist s.device.spec e ≡ true → Step s e a n
      → Grown s.device.journal journal → Grown n.device.journal journal → StepTells journal s.device n.device (lines_of journal e a)
  step_tells s e a n steady there step from to = elim (cases_step s e a n step) [
    | inl refused ↦
        subst (λ (x : Answer). StepTells journal s.device n.device (lines_of journal e x)) (sym refused.answers)
        (subst (λ (m : CoreState). StepTells journal s.device m.device (lines_of journal e (answer.Refused refused.why))) (sym refused.keeps) (still s.device))
    | inr had ↦
        let grown : Grown (outcome_of_event s e).1.device.journal journal = subst (λ (m : CoreState). Grown m.device.journal journal) had.leaves to in
        subst (λ (x : Answer). StepTells journal s.device n.device (lines_of journal e x)) (sym had.answers)
        (subst (λ (m : CoreState). StepTells journal s.device m.device (lines_of journal e (outcome_of_event s e).0)) (sym had.leaves) (outcome_tells s e steady there from grown))
  ]
