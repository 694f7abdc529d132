-- A cancellation and a reap of the tables are those of their definitions, and keep the tables whole.
use Rattle.std.proofs.Common.{◌≡◌, ℕ, ◌+◌, set, ◌<◌, ◌≤◌, Bool, true, false, not, ◌&&◌, ◌||◌, ◌==◌, List, [], ◌∷◌, take, length, map, get_or, Some, None, Option, refl, sym, ap, subst, ◌∙◌, inl, inr, arith, slice_get}
use Rattle.std.specs.declared.alloc.Global.{Global}
use Rattle.std.specs.Prelude.{filter, is_none, nat_lt, vec_capacity, Vec, IfSome, IfNone}
use Rattle.std.specs.Option.{option_map_or}
use Rattle.std.specs.List.{list_all}
use Rattle.std.proofs.lemmas.Bool.{cases_Bool, cases_eq, both_ways, eqb-true, eq-eqb, ltb-true, ltb-false}
use Rattle.std.proofs.lemmas.Option.{slice_get_within}
use Rattle.std.proofs.lemmas.List.Folds.{list_all-append}
use Rattle.drm_lists.proofs.Searches.{all_at}
use Rattle.drm_lists.proofs.Places.{stands_within, at_index, contains_at, place_of, get_numbered, get_take}
use Rattle.drm_types.specs.Firsts.{when, first, first_of}
use Rattle.drm_types.specs.declared.outcome.Outcome.TheVariants as outcome
use Rattle.drm_fence.specs.Fences.{Fences}
use Rattle.drm_fence.specs.declared.phase.Phase.{Phase}
use Rattle.drm_fence.specs.declared.phase.Phase.TheVariants.{Queued, Scheduled, Ended}
use Rattle.drm_fence.specs.Phases.{is_queued, has_ended}
use Rattle.drm_entity.specs.Rows.{EntityRow, EntityRows, queue_at, row_changed, popped}
use Rattle.drm_state.specs.declared.answer.Answer.TheVariants as answer
use Rattle.drm_state.specs.declared.answer.Refusal.TheVariants.{Nothing, Waits}
use Rattle.drm_state.specs.declared.journal.JobRecord.{JobRecord}
use Rattle.drm_ring.specs.RingRows.{pending_at}
use Rattle.drm_state.specs.declared.loads.Loads.{Loads}
use Rattle.drm_table.specs.declared.table.Table.{Table}
use Rattle.drm_state.specs.State.{EntityState}
use Rattle.drm_state.specs.Choice.{queue_of}
use Rattle.drm_state.specs.Journal.{numbered, is_at}
use Rattle.drm_state.specs.Order.{dependencies}
use Rattle.drm_state.specs.Outcomes.{ended_at, cancelled_device, reap_outcome}
use Rattle.drm_state.specs.Refusals.{must_still_wait, reap_refusal}
use Rattle.drm_table.specs.Plain.{marks, QueuesStand}
use Rattle.drm_state.specs.Ring.{is_stopped, pending_of}
use Rattle.drm_state.specs.Lawful.{IsPendingList}
use Rattle.drm_state.specs.Stopping.{may_end_after}
use Rattle.drm_state.specs.Loads.{LoadsOf}
use Rattle.drm_state.specs.Records.{fence_state_of}
use Rattle.drm_table.specs.Tables.{state_of, IsWhole}
use Rattle.drm_state.proofs.CallsAre.{Left}
use Rattle.drm_table.proofs.Candidates.{head_number, head_found, queued_goes_on}
use Rattle.drm_state.proofs.ChoiceIs.{all_of_filter, in_filter, head_of_queue}
use Rattle.drm_state.specs.Events.{IsKept}
use Rattle.drm_state.proofs.DeviceSteps.{cancel_kept, reap_kept}
use Rattle.drm_state.proofs.LatestStands.{all_from, same_test, in_front, latest_stand, ended_goes_down}
use Rattle.drm_state.proofs.Records.{at_test, changed_is}
use Rattle.drm_table.proofs.ArmDone.{few_entities, ring_of_entity_there}
use Rattle.drm_state.proofs.Homes.{one_ring}
use Rattle.drm_state.proofs.LoadsKept.{loads_ended}
use Rattle.drm_table.proofs.TableFacts.{entity_row_there, pending_told, whole_kept}
use Rattle.drm_table.proofs.Queues.{IsFront, front_is, marks_changed, stands_marked, stands_popped, IsPopped}
use Rattle.drm_state.specs.Rows.{is_open}
use Rattle.drm_table.proofs.RowsKept.{rows_same, open_set}

-- tables of which an entity was stopped stay whole
pub stopped_done : (t : Table) (entity : ℕ) (entities : EntityRows) → IsWhole t → entity < length t.spec.entities
    → entities ≡ row_changed t.entities entity (λ r. record r { is_stopped = true })
    → (state_of (record t { entities = entities }) ≡ cancelled_device (state_of t) entity) × IsWhole (record t { entities = entities })
stopped_done t entity entities w there is =
    let stop : EntityRow → EntityRow = λ r. record r { is_stopped = true } in
    let mark : EntityState → EntityState = λ e. record e { is_stopped = true } in
    let row = stands_within t.entities.rows entity (entity_row_there t entity w there) in
    let state : state_of (record t { entities = entities }) ≡ cancelled_device (state_of t) entity =
    ap (λ es. record (state_of t) { entities = es }) (ap marks is ∙ marks_changed t.entities entity row.0 stop mark row.1 refl) in (
      state,
      whole_kept t (record t { entities = entities }) w (subst (IsKept (state_of t)) (sym state) (cancel_kept (state_of t) entity w.steady)) w.fences refl
          (subst (QueuesStand t.journal.items) (sym is) (stands_marked t.journal.items t.entities entity row.0 stop row.1 refl w.queues)) w.loads
          (rows_same t t.rings (state_of (record t { entities = entities })) w (subst (IsKept (state_of t)) (sym state) (cancel_kept (state_of t) entity w.steady)).grows refl (λ f r at scheduled. refl)) refl
          (record {
            jobs = w.rooms.jobs;
            waits = w.rooms.waits;
            places = w.rooms.places;
            queues = ap (λ (e : EntityRows). e.places) is ∙ w.rooms.queues;
          }),
    )

-- the ring of a job is there
pub job_ring_there : (t : Table) (number : ℕ) (r : JobRecord) → IsWhole t → slice_get t.journal.items number ≡ Some r → r.ring < length t.spec.rings
job_ring_there t number r w at =
    ring_of_entity_there t r.job.entity r.ring w (few_entities t.spec r.job w.limits (w.steady.lawful.records number r at).job).0 (w.steady.listed number r at)

-- a job at its place
pub job_at : (t : Table) (number : ℕ) (entity : ℕ) (r : JobRecord) → head_number t.journal.items entity ≡ Some number → r ≡ get_or t.journal.items number r
    → slice_get t.journal.items number ≡ Some r
job_at t number entity r is r_is =
    let front = front_is t.journal.items entity number is in
    at_index t.journal.items number r r_is (slice_get_within t.journal.items number front.0 front.1.at)

-- a job of the entity that was scheduled came before the front of its queue
came_before : (t : Table) (entity number f : ℕ) (r x : JobRecord) → IsWhole t → IsFront t.journal.items entity number r → slice_get t.journal.items f ≡ Some x
    → x.phase ≡ Scheduled → x.job.entity ≡ entity → f < number
came_before t entity number f r x w front at phase of_entity =
    elim (cases_Bool (nat_lt f number)) [
      | inl before ↦ ltb-true f number before
      | inr later ↦
          let le = ltb-false f number later in
          let scheduled : is_queued x.phase ≡ false = ap is_queued phase in
          elim (cases_eq number f) [
            | inl same ↦
                let here : slice_get t.journal.items number ≡ Some x = subst (λ n. slice_get t.journal.items n ≡ Some x) (sym same) at in
                let is : r ≡ x = cc (front.at, here) in
                absurd (both_ways (is_queued x.phase) scheduled (ap (λ (z : JobRecord). is_queued z.phase) (sym is) ∙ front.queued))
            | inr apart ↦
                let lt : number < f = omega (arith, le, apart) in
                let begun = (w.steady.lawful.entities number f r x lt front.at at).begun (front.of_entity ∙ sym of_entity) scheduled in
                absurd (both_ways (is_queued r.phase) begun front.queued)
          ]
    ]

-- all earlier jobs of the front's entity have ended exactly where none of its jobs is pending
earlier_ended : (t : Table) (entity number ring : ℕ) (r : JobRecord) → IsWhole t → IsFront t.journal.items entity number r → head_number t.journal.items entity ≡ Some number
    → ring < length t.spec.rings → ring ≡ r.ring
    → list_all (λ (n : ℕ × JobRecord). has_ended n.1.phase) (filter (λ (n : ℕ × JobRecord). n.1.job.entity == entity) (take number (numbered t.journal.items)))
    ≡ list_all (λ f. not (is_at t.journal.items f (λ r. r.job.entity == entity))) (pending_of (state_of t) ring)
earlier_ended t entity number ring r w front is there ring_is =
    same_test (list_all test (filter of_it (take number (numbered js)))) (list_all other pending) none_pending all_ended
  where
    js : List JobRecord
    js = t.journal.items

    pending : List ℕ
    pending = pending_of (state_of t) ring

    test : ℕ × JobRecord → Bool
    test n = has_ended n.1.phase

    of_it : ℕ × JobRecord → Bool
    of_it n = n.1.job.entity == entity

    other : ℕ → Bool
    other f = not (is_at js f (λ r. r.job.entity == entity))

    lists : IsPendingList js ring pending
    lists = (w.steady.lawful.rings ring there).pending

    none_pending : list_all test (filter of_it (take number (numbered js))) ≡ true → list_all other pending ≡ true
    none_pending all =
        all_from other pending (λ k f at.
        let x = (lists f).0 (contains_at pending k f at) in
        elim (cases_Bool (x.0.job.entity == entity)) [
          | inl of_entity ↦
              let lt = came_before t entity number f r x.0 w front x.1 x.2 (eqb-true x.0.job.entity entity of_entity) in
              let ended : has_ended x.0.phase ≡ true =
              all_of_filter test of_it (take number (numbered js)) f (0 + f, x.0) all
              (get_take (numbered js) number f lt ∙ get_numbered js 0 f x.0 x.1) of_entity in
              absurd (both_ways (has_ended x.0.phase) (ap has_ended x.2) ended)
          | inr fails ↦ ap not (at_test js f x.0 (λ r. r.job.entity == entity) x.1 ∙ fails)
        ])

    has_ended_so : (i : ℕ) (x : JobRecord) (phase : Phase) → list_all other pending ≡ true → i < number → slice_get js i ≡ Some x → x.job.entity ≡ entity → x.phase ≡ phase → has_ended x.phase ≡ true
    has_ended_so i x Queued all lt at of_entity phase =
        let begun = (head_of_queue js entity number r front.at front.of_entity (head_found js entity number is)).1 i x lt at (of_entity ∙ sym front.of_entity) in
        absurd (both_ways (is_queued x.phase) begun (ap is_queued phase))
    has_ended_so i x Scheduled all lt at of_entity phase =
        let home : x.ring ≡ ring = one_ring (state_of t) i number x r w.steady at front.at (of_entity ∙ sym front.of_entity)
        (ap has_ended phase) (queued_goes_on r.phase front.queued) ∙ sym ring_is in
        let place = place_of pending i ((lists i).1 (x, at, phase, home)) in
        let holds : other i ≡ true = all_at other pending place.0 i all place.1 in
        let fails : other i ≡ false = ap not (at_test js i x (λ r. r.job.entity == entity) at ∙ eq-eqb x.job.entity entity of_entity) in
        absurd (both_ways (other i) fails holds)
    has_ended_so i x (Ended outcome) all lt at of_entity phase = ap has_ended phase

    all_ended : list_all other pending ≡ true → list_all test (filter of_it (take number (numbered js))) ≡ true
    all_ended all =
        all_from test (filter of_it (take number (numbered js))) (λ k n at.
        let inside = in_filter of_it (take number (numbered js)) n (contains_at (filter of_it (take number (numbered js))) k n at) in
        let place = place_of (take number (numbered js)) n inside.0 in
        let front_of = in_front js number place.0 n place.1 in
        has_ended_so n.0 n.1 n.1.phase all front_of.0 front_of.1 (eqb-true n.1.job.entity entity inside.1) refl)

-- whether the front of a queue has to wait, by the dependencies that are kept for it
pub must_wait_is : (t : Table) (entity number ring : ℕ) (r : JobRecord) (deps : List (ℕ × ℕ)) → IsWhole t → IsFront t.journal.items entity number r
    → head_number t.journal.items entity ≡ Some number → ring < length t.spec.rings → ring ≡ r.ring → slice_get t.waits.lists number ≡ Some deps
    → must_still_wait t.journal.items number r ≡ not (may_end_after t.journal.items deps (pending_of (state_of t) ring) entity)
must_wait_is t entity number ring r deps w front is there ring_is at_deps =
    let js = t.journal.items in
    let test : ℕ × JobRecord → Bool = λ n. has_ended n.1.phase in
    let earlier : ℕ → List (ℕ × JobRecord) = λ e. filter (λ (n : ℕ × JobRecord). n.1.job.entity == e) (take number (numbered js)) in
    let parts = list_all-append test (dependencies js number r.job) (earlier r.job.entity) in
    let latest : list_all test (dependencies js number r.job) ≡ list_all (λ (d : ℕ × ℕ). is_at js d.1 (λ r. has_ended r.phase)) deps =
    latest_stand js number r deps (λ r. has_ended r.phase) (ended_goes_down (state_of t) w.steady)
    (w.waits.stand number r deps front.at (queued_goes_on r.phase front.queued) at_deps) in
    let others : list_all test (earlier r.job.entity) ≡ list_all (λ f. not (is_at js f (λ r. r.job.entity == entity))) (pending_of (state_of t) ring) =
    ap (λ e. list_all test (earlier e)) front.of_entity ∙ earlier_ended t entity number ring r w front is there ring_is in
    ap not (parts ∙ (ap (λ b. b && list_all test (earlier r.job.entity)) latest
    ∙ ap (λ b. list_all (λ (d : ℕ × ℕ). is_at js d.1 (λ r. has_ended r.phase)) deps && b) others))

-- whether a reap is refused, by the dependencies that are kept for the front of the queue
pub reap_refused : (t : Table) (entity number ring : ℕ) (r : JobRecord) (numbers : List ℕ) (deps : List (ℕ × ℕ)) (may : Bool) → IsWhole t → is_stopped (state_of t) entity ≡ true
    → head_number t.journal.items entity ≡ Some number → slice_get t.journal.items number ≡ Some r → ring ≡ r.ring → numbers ≡ pending_at t.rings ring
    → slice_get t.waits.lists number ≡ Some deps → may_end_after t.journal.items deps numbers entity ≡ may
    → reap_refusal (state_of t) entity ≡ first_of (when (not may) Waits ∷ [])
reap_refused t entity number ring r numbers deps may w stopped is r_at ring_of_r numbers_are deps_is may_is =
    let js = t.journal.items in
    let front = front_is js entity number is in
    let same : r ≡ front.0 = cc (r_at, front.1.at) in
    let ring_is : ring ≡ front.0.ring = ring_of_r ∙ ap (λ (z : JobRecord). z.ring) same in
    let there : ring < length t.spec.rings = subst (λ n. n < length t.spec.rings) (sym ring_of_r) (job_ring_there t number r w r_at) in
    let waits = must_wait_is t entity number ring front.0 deps w front.1 is there ring_is deps_is in
    let pending : pending_of (state_of t) ring ≡ numbers = sym (numbers_are ∙ pending_told t.rings ring) in
    ap (λ b. first_of (when (not b || is_none (first (queue_of entity js))) Nothing
    ∷ option_map_or (λ n. when (must_still_wait js n.0 n.1) Waits) (first (queue_of entity js)) None ∷ [])) stopped
    ∙ (ap (λ o. first_of (when (is_none o) Nothing ∷ option_map_or (λ n. when (must_still_wait js n.0 n.1) Waits) o None ∷ [])) front.1.first
    ∙ ap (λ b. first_of (when b Waits ∷ [])) (waits ∙ ap not (ap (λ ns. may_end_after js deps ns entity) pending ∙ may_is)))

-- the front has not ended yet
pub front_goes_on : (journal : List JobRecord) (entity number : ℕ) → head_number journal entity ≡ Some number
    → is_at journal number (λ r. not (has_ended r.phase)) ≡ true
front_goes_on journal entity number is =
    let front = front_is journal entity number is in
    at_test journal number front.0 (λ r. not (has_ended r.phase)) front.1.at ∙ ap not (queued_goes_on front.0.phase front.1.queued)

pub front_going : (t : Table) (entity number : ℕ) (r : JobRecord) → head_number t.journal.items entity ≡ Some number → slice_get t.journal.items number ≡ Some r
    → has_ended r.phase ≡ false
front_going t entity number r is at =
    let front = front_is t.journal.items entity number is in
    let same : front.0 ≡ r = cc (front.1.at, at) in
    queued_goes_on r.phase (ap (λ (x : JobRecord). is_queued x.phase) (sym same) ∙ front.1.queued)

-- the entities after the front of a queue has ended
pub front_popped : (t : Table) (entity number : ℕ) (items : List JobRecord) (new : EntityRows) (result : Option ℕ) → IsWhole t → entity < length t.spec.entities
    → head_number t.journal.items entity ≡ Some number → items ≡ ended_at t.journal.items number outcome.Stopped
    → IfSome result (λ n. (rest : List ℕ) × (queue_at t.entities entity ≡ n ∷ rest) × (new ≡ popped t.entities entity rest))
    → IfNone result ((queue_at t.entities entity ≡ []) × (new ≡ t.entities)) → IsPopped items t.entities new
front_popped t entity number items new result w there is ended some none =
    let js = t.journal.items in
    let front = front_is js entity number is in
    let end : JobRecord → JobRecord = λ r. record r { phase = Ended outcome.Stopped } in
    subst (λ js. IsPopped js t.entities new) (sym (ended ∙ changed_is js number front.0 end front.1.at))
    (stands_popped js t.entities new entity number front.0 (end front.0) result front.1.at front.1.of_entity front.1.queued refl is (entity_row_there t entity w there) some none w.queues)

-- the loads after it
pub front_unloaded : (t : Table) (entity number : ℕ) (r : JobRecord) (items : List JobRecord) (loads : Loads) → IsWhole t → head_number t.journal.items entity ≡ Some number
    → slice_get t.journal.items number ≡ Some r → items ≡ ended_at t.journal.items number outcome.Stopped
    → ((n : ℕ) → slice_get t.loads.live.items r.ring ≡ Some (n + 1) → loads.live.items ≡ set t.loads.live.items r.ring n) → loads.last ≡ t.loads.last → loads.ended ≡ t.loads.ended + 1
    → LoadsOf t.spec items loads
front_unloaded t entity number r items loads w is at ended live last one_more =
    let end : JobRecord → JobRecord = λ x. record x { phase = Ended outcome.Stopped } in
    subst (λ js. LoadsOf t.spec js loads) (sym (ended ∙ changed_is t.journal.items number r end at))
    (loads_ended t.spec t.journal.items number r (end r) t.loads loads w.loads at (front_going t entity number r is at) refl refl refl (job_ring_there t number r w at) live last one_more)

-- a reap that is not refused
pub reap_done : (t : Table) (entity number : ℕ) (journal : Vec JobRecord Global) (fences : Fences) (entities : EntityRows) (loads : Loads) → IsWhole t
    → head_number t.journal.items entity ≡ Some number → reap_refusal (state_of t) entity ≡ None
    → journal.items ≡ ended_at t.journal.items number outcome.Stopped → fences.list ≡ map fence_state_of journal.items
    → vec_capacity journal ≡ vec_capacity t.journal → fences.places ≡ t.fences.places → IsPopped journal.items t.entities entities → LoadsOf t.spec journal.items loads
    → (reap_outcome (state_of t) entity ≡ (answer.Reaped number, state_of (record t { journal = journal; fences = fences; entities = entities; loads = loads })))
    × IsWhole (record t { journal = journal; fences = fences; entities = entities; loads = loads })
reap_done t entity number journal fences entities loads w is may items tied room places left_queue stand =
    let d = state_of t in
    let u : Table = record t { journal = journal; fences = fences; entities = entities; loads = loads } in
    let front = front_is t.journal.items entity number is in
    let ends : reap_outcome d entity ≡ (answer.Reaped number, state_of u) =
    ap (λ o. option_map_or {U = Left} (λ (n : ℕ × JobRecord). (answer.Reaped n.0, record d { journal = ended_at d.journal n.0 outcome.Stopped })) o (answer.Ok, d)) front.1.first
    ∙ (ap (λ j. let left : Left = (answer.Reaped number, record d { journal = j }) in left) (sym items)
    ∙ ap (λ es. let left : Left = (answer.Reaped number, record d { journal = journal.items; entities = es }) in left) (sym left_queue.marks_same)) in (
      ends,
      whole_kept t u w (subst (λ (q : Left). IsKept d q.1) ends (reap_kept d entity w.steady may)) tied refl left_queue.stand stand
          (rows_same t t.rings (state_of u) w (subst (λ (q : Left). IsKept d q.1) ends (reap_kept d entity w.steady may)).grows refl (λ f r at scheduled.
          ap (λ js. is_open js f) (items ∙ changed_is t.journal.items number front.0 (λ r. record r { phase = Ended outcome.Stopped }) front.1.at)
          ∙ open_set t.journal.items number front.0 (record front.0 { phase = Ended outcome.Stopped }) front.1.at refl f)) refl
          (record {
            jobs = subst (λ n. t.spec.max_jobs ≤ n) (sym room) w.rooms.jobs;
            waits = w.rooms.waits;
            places = places ∙ w.rooms.places;
            queues = left_queue.places ∙ w.rooms.queues;
          }),
    )
