-- An arming that is not refused is the arming of its definition, and keeps the tables whole.
use Rattle.std.proofs.Common.{◌≡◌, ℕ, zero, suc, ◌+◌, ◌<◌, ◌≤◌, Bool, true, false, not, ◌||◌, ◌==◌, List, [], ◌∷◌, ◌++◌, cond, length, map, set, ◌⊎◌, Some, None, Option, refl, sym, ap, subst, ◌∙◌, inl, inr, arith, slice_get}
use Rattle.std.specs.declared.alloc.Global.{Global}
use Rattle.std.specs.Prelude.{vec_capacity, Vec, find, option_map, nat_le, nat_lt, Contains}
use Rattle.std.specs.Option.{option_map_or}
use Rattle.std.specs.List.{list_any}
use Rattle.std.proofs.lemmas.Bool.{cases_Bool, or_left, or_right, eqb-true, eq-eqb, leb-false, leb-true, ltb-true, and_parts}
use Rattle.std.proofs.lemmas.Option.{slice_get_within}
use Rattle.std.proofs.lemmas.List.{map-append, length-append}
use Rattle.std.proofs.lemmas.List.Elements.{All-weaker}
use Rattle.drm_lists.proofs.Places.{stands_within, get_before_push, get_push_cases}
use Rattle.drm_types.specs.declared.spec.DeviceSpec.{DeviceSpec}
use Rattle.drm_types.specs.declared.spec.EntitySpec.{EntitySpec}
use Rattle.drm_types.specs.Firsts.{when, first}
use Rattle.drm_types.specs.Limits.{spec_fault, spec_tests, whole, is_between}
use Rattle.drm_job.specs.declared.Draft.{Draft}
use Rattle.drm_job.specs.declared.JobFault.TheVariants.{NoEntity}
use Rattle.drm_job.specs.Conflicts.{conflicts}
use Rattle.drm_job.specs.Fault.{job_tests, IsJob}
use Rattle.drm_types.proofs.Firsts.{none_first, none_at, none_when, false_where}
use Rattle.drm_fence.specs.declared.phase.Phase.TheVariants.{Queued}
use Rattle.drm_fence.specs.Fences.{Fences}
use Rattle.drm_resv.specs.Stored.{ListsWithPlaces}
use Rattle.drm_entity.specs.Rows.{EntityRows, pushed}
use Rattle.drm_state.specs.declared.journal.JobRecord.{JobRecord}
use Rattle.drm_state.specs.declared.loads.Loads.{Loads}
use Rattle.drm_table.specs.declared.table.Table.{Table}
use Rattle.drm_state.specs.declared.answer.Refusal.TheVariants.{Stopped, Full, NoFence}
use Rattle.drm_state.specs.State.{DeviceState}
use Rattle.drm_state.specs.Arming.{arming_ring, new_record, armed_device, rings_of}
use Rattle.drm_state.specs.Refusals.{arm_refusal}
use Rattle.drm_state.specs.Ring.{is_stopped}
use Rattle.drm_state.specs.Steady.{IsSteady, IsRingOf}
use Rattle.drm_state.specs.Waits.{IsDependency, DepsStand}
use Rattle.drm_table.specs.Plain.{marks, WaitsStand, QueuesStand}
use Rattle.drm_state.specs.Loads.{LoadsOf}
use Rattle.drm_state.specs.Records.{fence_state_of}
use Rattle.drm_table.specs.Tables.{state_of, IsWhole}
use Rattle.drm_state.specs.Plans.{MeetsPlan, DepsCover, all_named, entity_at}
use Rattle.drm_table.proofs.PickDone.{rings_there}
use Rattle.drm_state.proofs.Homes.{arming_listed, listed_there}
use Rattle.drm_state.proofs.LoadsKept.{loads_armed}
use Rattle.drm_state.proofs.ArmLawful.{arm_steady}
use Rattle.drm_table.proofs.TableFacts.{entity_row_there}
use Rattle.drm_table.proofs.Queues.{marks_pushed, stands_pushed}
use Rattle.drm_state.proofs.Records.{at_test}
use Rattle.drm_state.proofs.Notes.{Reaches, each_keeps, each_reaches, each_all}
use Rattle.drm_state.specs.Rows.{is_open}
use Rattle.drm_table.proofs.RowsKept.{rows_same}
use Rattle.drm_state.specs.Journal.{is_complete}
use Rattle.drm_state.proofs.Growth.{arm_grows}
use Rattle.drm_state.specs.Grows.{Grows}

-- an entity of a job is below 64
pub few_entities : (spec : DeviceSpec) (job : Draft) → spec_fault spec ≡ None → IsJob spec job → (job.entity < length spec.entities) × (job.entity < 64)
few_entities spec job none is =
    let there = ltb-true job.entity (length spec.entities)
    (none_when (nat_lt job.entity (length spec.entities)) NoEntity (none_at (job_tests spec job) 0 (when (not (nat_lt job.entity (length spec.entities))) NoEntity) is refl)) in
    let count : is_between 1 64 (length spec.entities) ≡ true =
    none_when (is_between 1 64 (length spec.entities)) (record { part = 6; index = 0 })
    (none_at (spec_tests spec) 6 (whole 6 (is_between 1 64 (length spec.entities))) none refl) in
    let most = leb-true (length spec.entities) 64 (and_parts (nat_le 1 (length spec.entities)) (nat_le (length spec.entities) 64) count).1 in
    (there, omega (arith, there, most))

-- where none is found, each fails
pub each_fails : (p : ℕ → Bool) (xs : List ℕ) (k x : ℕ) → find p xs ≡ None → slice_get xs k ≡ Some x → p x ≡ false
each_fails p [] k x none at = absurd (cc (at))
each_fails p (y ∷ xs) k x none at =
    elim (cases_Bool (p y)) [
      | inl is ↦ let never : Some y ≡ None = sym (ap (λ b. cond b (Some y) (find p xs)) is) ∙ none in absurd (cc (never))
      | inr fails ↦ by_place k at fails (each_fails p xs) (sym (ap (λ b. cond b (Some y) (find p xs)) fails) ∙ none)
    ]
  where
    by_place : (k : ℕ) → slice_get (y ∷ xs) k ≡ Some x → p y ≡ false → ((k x : ℕ) → find p xs ≡ None → slice_get xs k ≡ Some x → p x ≡ false) → find p xs ≡ None → p x ≡ false
    by_place zero at fails rest none = let same : y ≡ x = cc (at) in ap p (sym same) ∙ fails
    by_place (suc k) at fails rest none = rest k x none at

-- an arming that is not refused: there is a place, and each named fence is armed
pub record MayArm (d : DeviceState) (job : Draft) : Type 0 where
  pub place : length d.journal < d.spec.max_jobs
  pub named : (k f : ℕ) → slice_get job.after k ≡ Some f → f < length d.journal

pub may_arm : (d : DeviceState) (job : Draft) → arm_refusal d job ≡ None → MayArm d job
may_arm d job may =
    let rest = (none_first (when (is_stopped d job.entity) Stopped) (when (nat_le d.spec.max_jobs (length d.journal)) Full ∷ option_map NoFence (find (λ f. nat_le (length d.journal) f) job.after) ∷ []) may).1 in
    let two = none_first (when (nat_le d.spec.max_jobs (length d.journal)) Full) (option_map NoFence (find (λ f. nat_le (length d.journal) f) job.after) ∷ []) rest in
    let three = (none_first (option_map NoFence (find (λ f. nat_le (length d.journal) f) job.after)) [] two.1).0 in
    record {
      place = leb-false d.spec.max_jobs (length d.journal) (false_where (nat_le d.spec.max_jobs (length d.journal)) Full two.0);
      named = λ k f at. leb-false (length d.journal) f (each_fails (λ f. nat_le (length d.journal) f) job.after k f (not_found (find (λ f. nat_le (length d.journal) f) job.after) three) at);
    }
  where
    not_found : (o : Option ℕ) → option_map NoFence o ≡ None → o ≡ None
    not_found None is = refl
    not_found (Some f) is = absurd (cc (is))

-- a name among the explicit fences
named_at : (after : List ℕ) (i : ℕ) → list_any (λ f. f == i) after ≡ true → (k : ℕ) × (slice_get after k ≡ Some i)
named_at [] i is = absurd (let never : false ≡ true = is in cc (never))
named_at (f ∷ after) i is =
    elim (cases_Bool (f == i)) [
      | inl here ↦ (0, ap (λ n. Some n) (eqb-true f i here))
      | inr no_more ↦ let there = named_at after i (sym (ap (λ b. b || list_any (λ f. f == i) after) no_more) ∙ is) in (suc there.0, there.1)
    ]

names_it : (after : List ℕ) (i k : ℕ) → slice_get after k ≡ Some i → list_any (λ f. f == i) after ≡ true
names_it [] i k at = absurd (cc (at))
names_it (f ∷ after) i zero at =
    let same : f ≡ i = cc (at) in or_left (f == i) (list_any (λ f. f == i) after) (eq-eqb f i same)
names_it (f ∷ after) i (suc k) at = or_right (f == i) (list_any (λ f. f == i) after) (names_it after i k at)

-- what the new job waits for, in the journal that has it
pub new_stands : (d : DeviceState) (job : Draft) (deps : List (ℕ × ℕ)) (new : JobRecord) → DepsCover d job deps → MayArm d job
    → DepsStand (d.journal ++ new ∷ []) (length d.journal) job (all_named d.journal deps job.after)
new_stands d job deps new cover may = record {
  covers = λ i x lt at comes going.
      let old : slice_get d.journal i ≡ Some x = before lt at in
      elim (cases_Bool (conflicts x.job job)) [
        | inl meets ↦ each_keeps (entity_at d.journal) (λ f. f) deps job.after x.job.entity i (cover.covers i x old meets going)
        | inr apart ↦
            let named = named_at job.after i (sym (ap (λ b. b || list_any (λ f. f == i) job.after) apart) ∙ comes) in
            subst (λ e. Reaches (all_named d.journal deps job.after) e i) (ap (λ o. option_map_or (λ (r : JobRecord). r.job.entity) o 0) old)
            (each_reaches (entity_at d.journal) (λ f. f) deps job.after named.0 i named.1)
      ];
  of_jobs = each_all (IsDependency (d.journal ++ new ∷ []) (length d.journal) job) (entity_at d.journal) (λ f. f) deps job.after
      (All-weaker (MeetsPlan d.journal job) (IsDependency (d.journal ++ new ∷ []) (length d.journal) job) (λ e is.
      (is.0, get_before_push d.journal new e.1 is.0 is.1, is.2, slice_get_within d.journal e.1 is.0 is.1, or_left (conflicts is.0.job job) (list_any (λ f. f == e.1) job.after) is.3)) deps cover.of_jobs)
      (λ k f at.
      let x = stands_within d.journal f (may.named k f at) in (
        x.0,
        get_before_push d.journal new f x.0 x.1,
        sym (ap (λ o. option_map_or (λ (r : JobRecord). r.job.entity) o 0) x.1),
        may.named k f at,
        or_right (conflicts x.0.job job) (list_any (λ g. g == f) job.after) (names_it job.after f k at),
      ));
}
  where
    before : {i : ℕ} {x : JobRecord} → i < length d.journal → slice_get (d.journal ++ new ∷ []) i ≡ Some x → slice_get d.journal i ≡ Some x
    before {i} {x} lt at =
        elim (get_push_cases d.journal new i x at) [
          | inl old ↦ old
          | inr it ↦ absurd (omega (arith, lt, it.0))
        ]

-- the dependencies of the old jobs stand in the longer journal
pub old_stands : (journal : List JobRecord) (new : JobRecord) (j : ℕ) (job : Draft) (deps : List (ℕ × ℕ)) → j < length journal → DepsStand journal j job deps
    → DepsStand (journal ++ new ∷ []) j job deps
old_stands journal new j job deps here stand = record {
  covers = λ i x lt at comes going.
      elim (get_push_cases journal new i x at) [
        | inl old ↦ stand.covers i x lt old comes going
        | inr it ↦ absurd (omega (arith, lt, it.0, here))
      ];
  of_jobs = All-weaker (IsDependency journal j job) (IsDependency (journal ++ new ∷ []) j job)
      (λ e is. (is.0, get_before_push journal new e.1 is.0 is.1, is.2, is.3, is.4)) deps stand.of_jobs;
}

-- so each job has its dependencies after the arming
pub waits_armed : (d : DeviceState) (job : Draft) (deps : List (ℕ × ℕ)) (waits : List (List (ℕ × ℕ))) (new : JobRecord) → WaitsStand d.journal waits → new.job ≡ job
    → DepsCover d job deps → MayArm d job → WaitsStand (d.journal ++ new ∷ []) (waits ++ all_named d.journal deps job.after ∷ [])
waits_armed d job deps waits new stand of_job cover may = record {
  count = length-append waits (all_named d.journal deps job.after ∷ []) ∙ (ap (λ n. n + 1) stand.count ∙ sym (length-append d.journal (new ∷ [])));
  stand = λ j r ds at going at_deps.
      elim (get_push_cases d.journal new j r at) [
        | inl old ↦
            let lt = slice_get_within d.journal j r old in
            let old_deps : slice_get waits j ≡ Some ds =
            elim (get_push_cases waits (all_named d.journal deps job.after) j ds at_deps) [
              | inl was ↦ was
              | inr it ↦ let count = stand.count in absurd (omega (arith, lt, it.0, count))
            ] in
            old_stands d.journal new j r.job ds lt (stand.stand j r ds old going old_deps)
        | inr it ↦
            let deps_is : ds ≡ all_named d.journal deps job.after =
            elim (get_push_cases waits (all_named d.journal deps job.after) j ds at_deps) [
              | inl was ↦ let lt = slice_get_within waits j ds was in let count = stand.count in absurd (omega (arith, lt, it.0, count))
              | inr same ↦ same.1
            ] in
            let job_is : r.job ≡ job = ap (λ (z : JobRecord). z.job) it.1 ∙ of_job in
            subst (λ ds. DepsStand (d.journal ++ new ∷ []) j r.job ds) (sym deps_is)
            (subst (λ z. DepsStand (d.journal ++ new ∷ []) j z (all_named d.journal deps job.after)) (sym job_is)
            (subst (λ n. DepsStand (d.journal ++ new ∷ []) n job (all_named d.journal deps job.after)) (sym it.0) (new_stands d job deps new cover may)))
      ];
}

-- a ring of an entity is there
pub ring_of_entity_there : (t : Table) (entity ring : ℕ) → IsWhole t → entity < length t.spec.entities → IsRingOf t.spec entity ring → ring < length t.spec.rings
ring_of_entity_there t entity ring w there listed =
    let e = stands_within t.spec.entities entity there in
    let rings_is : rings_of t.spec entity ≡ e.0.rings = ap (λ o. option_map_or (λ (x : EntitySpec). x.rings) o []) e.1 in
    listed_there e.0.rings (length t.spec.rings) ring (rings_there t.spec entity e.0 w.limits e.1)
    (subst (λ rings. (ring ≡ option_map_or (λ x. x) (first rings) 0) ⊎ Contains rings ring) rings_is listed)

-- so is that of its next job
pub arming_ring_there : (t : Table) (entity : ℕ) → IsWhole t → entity < length t.spec.entities → arming_ring (state_of t) entity < length t.spec.rings
arming_ring_there t entity w there =
    ring_of_entity_there t entity (arming_ring (state_of t) entity) w there (arming_listed (state_of t) entity w.steady)

-- the tables after the arming
abbrev pub armed_tables : Table → Vec JobRecord Global → ListsWithPlaces → Fences → EntityRows → Loads → Table
armed_tables t journal waits fences entities loads = record t { journal = journal; waits = waits; fences = fences; entities = entities; loads = loads }

pub arm_done : (t : Table) (job : Draft) (deps : List (ℕ × ℕ)) (ring : ℕ) (journal : Vec JobRecord Global) (waits : ListsWithPlaces) (fences : Fences) (entities : EntityRows) (loads : Loads) → IsWhole t
    → IsJob t.spec job → DepsCover (state_of t) job deps → arm_refusal (state_of t) job ≡ None → ring ≡ arming_ring (state_of t) job.entity
    → journal.items ≡ t.journal.items ++ record (new_record (state_of t) job) { ring = ring } ∷ []
    → waits.lists ≡ t.waits.lists ++ all_named t.journal.items deps job.after ∷ []
    → fences.list ≡ t.fences.list ++ record { phase = Queued; ran = 0 } ∷ [] → vec_capacity journal ≡ vec_capacity t.journal → waits.places ≡ t.waits.places
    → fences.places ≡ t.fences.places → entities ≡ pushed t.entities job.entity (length t.journal.items)
    → ((n : ℕ) → slice_get t.loads.live.items ring ≡ Some n → loads.live.items ≡ set t.loads.live.items ring (n + 1))
    → loads.last.items ≡ set t.loads.last.items job.entity (Some (length t.journal.items)) → loads.ended ≡ t.loads.ended
    → (state_of (armed_tables t journal waits fences entities loads) ≡ armed_device (state_of t) job) × IsWhole (armed_tables t journal waits fences entities loads)
arm_done t job deps ring journal waits fences entities loads w is_job cover may ring_is items waits_are list room waits_room places queued live last ended_same =
    let d = state_of t in
    let new = new_record d job in
    let arms = may_arm d job may in
    let items_are : journal.items ≡ t.journal.items ++ new ∷ [] = items ∙ ap (λ n. t.journal.items ++ record new { ring = n } ∷ []) ring_is in
    let row = stands_within t.entities.rows job.entity (entity_row_there t job.entity w (few_entities t.spec job w.limits is_job).0) in
    let marks_same : marks entities ≡ marks t.entities = ap marks queued ∙ marks_pushed t.entities job.entity (length t.journal.items) row.0 row.1 in
    let state : state_of (armed_tables t journal waits fences entities loads) ≡ armed_device d job =
    ap (λ es. let s : DeviceState = record d { journal = journal.items; entities = es } in s) marks_same
    ∙ ap (λ js. let s : DeviceState = record d { journal = js } in s) items_are in (
      state,
      record {
        steady = subst IsSteady (sym state) (arm_steady d job w.steady is_job);
        limits = w.limits;
        count = subst (λ n. n ≤ t.spec.max_jobs) (sym (ap length items_are ∙ length-append t.journal.items (new ∷ []))) (let place = arms.place in omega (arith, place));
        fences = list ∙ (ap (λ fs. fs ++ record { phase = Queued; ran = 0 } ∷ []) w.fences
            ∙ (sym (map-append fence_state_of t.journal.items (new ∷ [])) ∙ ap (map fence_state_of) (sym items_are)));
        waits = subst (λ ws. WaitsStand journal.items ws) (sym waits_are)
            (subst (λ js. WaitsStand js (t.waits.lists ++ all_named t.journal.items deps job.after ∷ [])) (sym items_are) (waits_armed d job deps t.waits.lists new w.waits refl cover arms));
        queues = subst (QueuesStand journal.items) (sym queued)
            (subst (λ js. QueuesStand js (pushed t.entities job.entity (length t.journal.items))) (sym items_are)
            (stands_pushed t.journal.items new t.entities job.entity row.0 row.1 refl refl w.queues));
        loads = subst (λ js. LoadsOf t.spec js loads) (sym items_are)
            (loads_armed t.spec t.journal.items new t.loads loads w.loads refl (arming_ring_there t job.entity w (few_entities t.spec job w.limits is_job).0)
            (subst (λ k. (n : ℕ) → slice_get t.loads.live.items k ≡ Some n → loads.live.items ≡ set t.loads.live.items k (n + 1)) ring_is live) last ended_same
            (few_entities t.spec job w.limits is_job).0);
        rows = rows_same t t.rings (state_of (armed_tables t journal waits fences entities loads)) w
            (subst (Grows d) (sym state) (arm_grows d job)) refl (λ f r at scheduled.
            ap (λ js. is_open js f) items_are ∙ (at_test (t.journal.items ++ new ∷ []) f r (λ z. not (is_complete z)) (get_before_push t.journal.items new f r at)
            ∙ sym (at_test t.journal.items f r (λ z. not (is_complete z)) at)));
        sizes = w.sizes;
        rooms = record {
          jobs = subst (λ n. t.spec.max_jobs ≤ n) (sym room) w.rooms.jobs;
          waits = subst (λ n. t.spec.max_jobs ≤ n) (sym waits_room) w.rooms.waits;
          places = places ∙ w.rooms.places;
          queues = ap (λ (e : EntityRows). e.places) queued ∙ w.rooms.queues;
        };
      },
    )
