-- The heads stand beside the tables after each call of a device.
use Rattle.std.proofs.Common.{◌≡◌, ℕ, zero, suc, ◌<◌, true, false, ◌∷◌, ◌++◌, ◌&&◌, ◌==◌, List, [], replicate, length, Some, None, Result, Ok, Err, refl, sym, ap, subst, ◌∙◌, arith, slice_get}
use Rattle.std.specs.List.{count_by}
use Rattle.std.proofs.lemmas.List.{length-map, length-replicate}
use Rattle.drm_lists.proofs.Changed.{get_set_same}
use Rattle.drm_types.specs.declared.spec.DeviceSpec.{DeviceSpec}
use Rattle.drm_types.specs.Firsts.{first, is_nil, when}
use Rattle.drm_entity.specs.Rows.{queue_at}
use Rattle.drm_fence.specs.declared.pair.Pair.{Pair}
use Rattle.drm_fence.specs.declared.phase.Phase.TheVariants.{Scheduled}
use Rattle.drm_fence.specs.Waiting.{Waiting}
use Rattle.drm_job.specs.declared.Draft.{Draft}
use Rattle.drm_job.specs.Fault.{IsJob}
use Rattle.drm_state.specs.declared.answer.Expired.{Expired}
use Rattle.drm_state.specs.declared.answer.Picked.{Picked}
use Rattle.drm_state.specs.declared.answer.Refusal.TheVariants.{AlreadyStopped}
use Rattle.drm_state.specs.declared.answer.Stepped.{Stepped}
use Rattle.drm_state.specs.declared.errors.CancelError.{CancelError}
use Rattle.drm_state.specs.declared.errors.StepError.{StepError}
use Rattle.drm_state.specs.declared.errors.TimeoutError.{TimeoutError}
use Rattle.drm_state.specs.declared.journal.JobRecord.{JobRecord}
use Rattle.drm_state.specs.Answers.{picked}
use Rattle.drm_state.specs.Arming.{armed_device}
use Rattle.drm_state.specs.Choice.{queue_of}
use Rattle.drm_state.specs.Errors.{refusal_of_cancel}
use Rattle.drm_state.specs.Outcomes.{pick_outcome}
use Rattle.drm_state.specs.Ring.{is_stopped}
use Rattle.drm_state.specs.State.{DeviceState, opened_device}
use Rattle.drm_table.specs.declared.table.Table.{Table}
use Rattle.drm_table.specs.Plain.{marks_of}
use Rattle.drm_table.specs.Tables.{state_of, IsWhole}
use Rattle.drm_sched.specs.declared.heads.Heads.{Heads}
use Rattle.drm_sched.specs.declared.parts.Parts.{Parts}
use Rattle.drm_sched.specs.Begun.{HasReported}
use Rattle.drm_sched.specs.Calls.{StepIs, TimeoutIs, CancelIs}
use Rattle.drm_sched.specs.Heads.{HeadsStand, HeadsStandBut}
use Rattle.drm_sched.specs.Parts.{marked_of, IsWholeMarked}
use Rattle.drm_table.proofs.ArmDone.{few_entities}
use Rattle.drm_table.proofs.TableFacts.{entity_there}
use Rattle.drm_sched.proofs.Calls.{after_call, left_by}
use Rattle.drm_sched.proofs.HeadEvents.{LeavesAll, all_itself, stand_after, step_all, timeout_all, PicksJob, pick_picks}
use Rattle.drm_sched.proofs.HeadsArmed.{cancel_stand, arm_stand, arm_stand_but}
use Rattle.drm_sched.proofs.HeadsKept.{empty_key, empty_watched, no_front, front_found}
use Rattle.drm_sched.proofs.MarksOther.{ring_is_there}

-- the heads stand beside these tables
abbrev pub StandBeside : Table → Heads → Type 0
StandBeside t h = HeadsStand (state_of t) t.waits.lists h

-- the same state
pub same_state : (t n : Table) (h : Heads) → state_of n ≡ state_of t → n.waits.lists ≡ t.waits.lists → StandBeside t h → StandBeside n h
same_state t n h state waits stand = subst (λ ws. HeadsStand (state_of n) ws h) (sym waits) (subst (λ s. HeadsStand s t.waits.lists h) (sym state) stand)

-- ---- calls that change none of them

pub step_beside : (d e : Parts) (h : Heads) (ring : ℕ) (r : Result Stepped StepError) → IsWholeMarked d → ring < length d.table.spec.rings → StepIs ring r (marked_of d) (marked_of e)
    → e.table.waits.lists ≡ d.table.waits.lists → StandBeside d.table h → StandBeside e.table h
step_beside d e h ring r w there is waits stand =
    stand_after (state_of d.table) (state_of e.table) d.table.waits.lists e.table.waits.lists h
    (after_call (LeavesAll (state_of d.table)) r (marked_of d) (marked_of e) is (all_itself (state_of d.table)) (λ may. step_all (state_of d.table) ring w.steady.state there)) waits stand

pub timeout_beside : (d e : Parts) (h : Heads) (ring now : ℕ) (r : Result Expired TimeoutError) → IsWholeMarked d → ring < length d.table.spec.rings → TimeoutIs ring now r (marked_of d) (marked_of e)
    → e.table.waits.lists ≡ d.table.waits.lists → StandBeside d.table h → StandBeside e.table h
timeout_beside d e h ring now r w there is waits stand =
    stand_after (state_of d.table) (state_of e.table) d.table.waits.lists e.table.waits.lists h
    (after_call (LeavesAll (state_of d.table)) r (marked_of d) (marked_of e) is (all_itself (state_of d.table)) (λ may. timeout_all (state_of d.table) ring now w.steady.state there)) waits stand

pub report_beside : (d e : Parts) (h : Heads) (ring : ℕ) (ran : ℕ × ℕ) → IsWholeMarked d → HasReported (marked_of d) ring ran (marked_of e)
    → e.table.waits.lists ≡ d.table.waits.lists → StandBeside d.table h → StandBeside e.table h
report_beside d e h ring ran w (m, p, is, at, ran_is, left, may, stepped_is) waits stand =
    stand_after (state_of d.table) (state_of e.table) d.table.waits.lists e.table.waits.lists h
    (left_by (LeavesAll (state_of d.table)) stepped_is (step_all (state_of d.table) ring w.steady.state (ring_is_there (marked_of d) ring m w.steady is))) waits stand

-- ---- a pick

-- what is needed of a job that was picked, before and after
pub record IsPicked (t n : Table) (ring f : ℕ) : Type 0 where
  pub picks : PicksJob (state_of t) (state_of n) ring f
  pub new : JobRecord
  pub at : slice_get n.journal.items f ≡ Some new
  pub same_job : new.job ≡ picks.job.job
  pub here : picks.job.job.entity < length t.spec.entities

pub is_picked : (t n : Table) (ring now : ℕ) (x : Picked) → IsWhole t → pick_outcome (state_of t) ring now ≡ (picked x, state_of n) → IsPicked t n ring x.fence
is_picked t n ring now x w is =
    let p = pick_picks (state_of t) (state_of n) ring now x.fence x.skipped is in
    let new : JobRecord = record p.job { phase = Scheduled; is_skipped = p.skipped } in
    let owner = entity_there t x.fence p.job w p.at in
    let rows = length-map t.entities.rows marks_of in
    let count = w.steady.lawful.entity_count in
    record {
      picks = p;
      new = new;
      at = ap (λ js. slice_get js x.fence) p.journal ∙ get_set_same t.journal.items x.fence p.job new p.at;
      same_job = refl;
      here = omega (arith, owner, rows, count);
    }

-- ---- a device on which nothing was armed

replicate_get : {X : Type 0} (n k : ℕ) (x y : X) → slice_get (replicate n x) k ≡ Some y → y ≡ x
replicate_get zero k x y at = absurd (cc (at))
replicate_get (suc n) zero x y at = cc (at)
replicate_get (suc n) (suc k) x y at = replicate_get n k x y at

pub opened_beside : (t : Table) (h : Heads) (spec : DeviceSpec) → state_of t ≡ opened_device spec → t.waits.lists ≡ []
    → h.queues.items ≡ replicate (length spec.rings) (replicate (length spec.entities) None)
    → h.waiters ≡ record { entities = length spec.entities; fences = spec.max_jobs; pairs = [] } → StandBeside t h
opened_beside t h spec opened waits queues waiters =
    subst (λ ws. HeadsStand (state_of t) ws h) (sym waits)
    (subst (λ s. HeadsStand s [] h) (sym opened) stand)
  where
    stand : HeadsStand (opened_device spec) [] h
    stand = record {
      rings = ap length queues ∙ length-replicate (length spec.rings) (replicate (length spec.entities) None);
      entities = λ ring keys at.
          ap length (replicate_get (length spec.rings) ring (replicate (length spec.entities) None) keys (subst (λ qs. slice_get qs ring ≡ Some keys) queues at))
          ∙ length-replicate (length spec.entities) None;
      keys = λ ring entity keys k at at_k.
          let same = replicate_get (length spec.rings) ring (replicate (length spec.entities) None) keys (subst (λ qs. slice_get qs ring ≡ Some keys) queues at) in
          replicate_get (length spec.entities) entity None k (subst (λ ks. slice_get ks entity ≡ Some k) same at_k)
          ∙ sym (empty_key (opened_device spec) entity ring refl);
      watches = λ entity test.
          ap (λ (w : Waiting). count_by (λ (p : Pair). (p.entity == entity) && test p) w.pairs) waiters
          ∙ sym (ap (count_by test) (empty_watched (opened_device spec) [] entity refl));
      waiting = ap (λ (w : Waiting). w.entities) waiters;
      fences = ap (λ (w : Waiting). w.fences) waiters;
    }

-- ---- a cancel

pub cancel_beside : (d e : Parts) (h : Heads) (entity : ℕ) (r : Result (Unit {0}) CancelError) → IsWholeMarked d → entity < length d.table.spec.entities
    → is_stopped (state_of d.table) entity ≡ false → CancelIs entity r (marked_of d) (marked_of e)
    → e.table.waits.lists ≡ d.table.waits.lists → HeadsStandBut (state_of d.table) d.table.waits.lists entity h → StandBeside e.table h
cancel_beside d e h entity (Ok u) w there going is waits but =
    let count = w.steady.state.lawful.entity_count in
    subst (λ ws. HeadsStand (state_of e.table) ws h) (sym waits)
    (left_by (λ s. HeadsStand s d.table.waits.lists h) is.done.1 (cancel_stand (state_of d.table) d.table.waits.lists entity h (omega (arith, there, count)) but))
cancel_beside d e h entity (Err x) w there going is waits but =
    absurd (let clash : None ≡ Some (refusal_of_cancel x) = sym (ap (λ b. when b AlreadyStopped) going) ∙ is.refused.0 in cc (clash))

-- ---- an arming, where the entity has nothing queued, and where it has

nothing_first : (xs : List ℕ) → is_nil xs ≡ true → first xs ≡ None
nothing_first [] is = refl
nothing_first (x ∷ xs) is = absurd (let never : false ≡ true = is in cc (never))

some_first : (xs : List ℕ) → is_nil xs ≡ false → (x : ℕ) × (first xs ≡ Some x)
some_first [] is = absurd (let never : true ≡ false = is in cc (never))
some_first (x ∷ xs) is = (x, refl)

pub armed_but : (t n : Table) (h : Heads) (job : Draft) (entity : ℕ) (deps : List (ℕ × ℕ)) → IsWhole t → IsJob t.spec job → entity ≡ job.entity
    → is_nil (queue_at t.entities entity) ≡ true
    → state_of n ≡ armed_device (state_of t) job → n.waits.lists ≡ t.waits.lists ++ deps ∷ [] → StandBeside t h
    → (entity < length n.spec.entities) × HeadsStandBut (state_of n) n.waits.lists entity h
armed_but t n h job entity deps w is_job of_it none armed waits stand =
    let there = (few_entities t.spec job w.limits is_job).0 in
    let here : entity < length t.spec.entities = subst (λ e. e < length t.spec.entities) (sym of_it) there in
    let empty = no_front t entity w here (nothing_first (queue_at t.entities entity) none) in (
      subst (λ (s : DeviceSpec). entity < length s.entities) (sym (ap (λ (x : DeviceState). x.spec) armed)) here,
      subst (λ ws. HeadsStandBut (state_of n) ws entity h) (sym waits)
          (subst (λ s. HeadsStandBut s (t.waits.lists ++ deps ∷ []) entity h) (sym armed)
          (subst (λ e. HeadsStandBut (armed_device (state_of t) job) (t.waits.lists ++ deps ∷ []) e h) (sym of_it)
          (arm_stand_but (state_of t) job t.waits.lists deps h w.waits (ap (λ e. first (queue_of e t.journal.items)) (sym of_it) ∙ empty) stand))),
    )

pub armed_beside : (t n : Table) (h : Heads) (job : Draft) (entity : ℕ) (deps : List (ℕ × ℕ)) → IsWhole t → IsJob t.spec job → entity ≡ job.entity
    → is_nil (queue_at t.entities entity) ≡ false
    → state_of n ≡ armed_device (state_of t) job → n.waits.lists ≡ t.waits.lists ++ deps ∷ [] → StandBeside t h → StandBeside n h
armed_beside t n h job entity deps w is_job of_it some armed waits stand =
    let there = (few_entities t.spec job w.limits is_job).0 in
    let here : entity < length t.spec.entities = subst (λ e. e < length t.spec.entities) (sym of_it) there in
    let number = some_first (queue_at t.entities entity) some in
    let front = front_found t entity number.0 w here number.1 in
    subst (λ ws. HeadsStand (state_of n) ws h) (sym waits)
    (subst (λ s. HeadsStand s (t.waits.lists ++ deps ∷ []) h) (sym armed)
    (arm_stand (state_of t) job t.waits.lists deps h (number.0, front.0) w.waits (ap (λ e. first (queue_of e t.journal.items)) (sym of_it) ∙ front.1.first) stand))
