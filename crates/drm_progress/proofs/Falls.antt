-- Whatever comes and lets a job go on, one record has less left.
use Rattle.std.proofs.Common.{◌≡◌, ℕ, ◌+◌, ◌<◌, Bool, true, false, not, cond, ◌&&◌, ◌||◌, List, [], ◌∷◌, Some, None, Option, refl, sym, ap, subst, ◌∙◌, arith, length, slice_get}
use Rattle.std.specs.Prelude.{slice_set, nat_lt, ◌-◌, ◌==◌, is_none, option_map}
use Rattle.std.specs.Option.{option_map_or}
use Rattle.std.proofs.lemmas.Bool.{and_parts, ltb-true, ne_eqb, not-true}
use Rattle.std.proofs.lemmas.Option.{slice_get-map, slice_get_within}
use Rattle.drm_lists.proofs.Places.{stands_within}
use Rattle.drm_lists.proofs.Changed.{get_set_same}
use Rattle.drm_types.specs.Firsts.{when, first, first_of}
use Rattle.drm_types.specs.declared.outcome.Outcome.{Outcome}
use Rattle.drm_types.specs.declared.outcome.Outcome.TheVariants as outcome
use Rattle.drm_types.specs.declared.spec.DeviceSpec.{DeviceSpec}
use Rattle.drm_types.specs.declared.spec.EntitySpec.{EntitySpec}
use Rattle.drm_packet.specs.declared.Packet.{Packet}
use Rattle.drm_packet.specs.declared.Packet.TheVariants.{Fill, Copy, Add, Stall}
use Rattle.drm_reset.specs.Blame.{blamed}
use Rattle.drm_fence.specs.declared.phase.Phase.TheVariants.{Scheduled, Ended}
use Rattle.drm_fence.specs.Phases.{is_queued}
use Rattle.drm_job.specs.declared.Draft.{Draft}
use Rattle.drm_job.specs.declared.JobFault.TheVariants.{NoEntity}
use Rattle.drm_job.specs.Fault.{IsJob, job_tests}
use Rattle.drm_types.proofs.Firsts.{none_at, none_when}
use Rattle.drm_state.specs.declared.journal.JobRecord.{JobRecord}
use Rattle.drm_state.specs.declared.answer.Answer.{Answer}
use Rattle.drm_state.specs.declared.answer.Answer.TheVariants as answer
use Rattle.drm_state.specs.declared.answer.Refusal.TheVariants.{Idle, NoCredit, NotComplete, Nothing, Waits}
use Rattle.drm_state.specs.State.{DeviceState}
use Rattle.drm_state.specs.Journal.{is_at, is_complete, changed_at}
use Rattle.drm_state.specs.Choice.{choice, queue_of}
use Rattle.drm_state.specs.Chosen.{ChoiceIsLeast}
use Rattle.drm_state.specs.Events.{DevicesStaySteady}
use Rattle.drm_state.specs.Lawful.{IsLawfulDevice}
use Rattle.drm_state.specs.Ring.{head_of, current_of, age_of, limit_of, credits_of, free_credits, is_guilty, is_stopped}
use Rattle.drm_state.specs.Refusals.{pick_refusal, finish_refusal, reap_refusal, must_still_wait}
use Rattle.drm_state.specs.Outcomes.{at_record, picked_device, pick_outcome, must_stall, ran_device, stepped_by, step_outcome, final_outcome, finished_device, finish_outcome, ended_at, hung, hung_device, condemned, condemned_device, is_too_much, hang_outcome, timeout_at, timeout_outcome, reap_outcome}
use Rattle.drm_state.specs.Steady.{IsSteady}
use Rattle.drm_progress.specs.Going.{Going, WorkFalls, phases_left, runs_packet, waits_for_reset, is_late, resets_of, resets_asked, work_left}
use Rattle.drm_progress.proofs.Lists.{none_is, or_true, place_of_first}
use Rattle.drm_progress.proofs.Heads.{head_there}
use Rattle.drm_progress.proofs.Work.{HasLess, asked_at, device_falls, queued_has_two}

-- a record that is changed stands at its place
changed_stands : (journal : List JobRecord) (n : ℕ) (r : JobRecord) (change : JobRecord → JobRecord) → slice_get journal n ≡ Some r
    → slice_get (changed_at journal n change) n ≡ Some (change r)
changed_stands journal n r change at =
    ap (λ o. slice_get (option_map_or (λ q. slice_set journal n (change q)) o journal) n) at
    ∙ get_set_same journal n r (change r) at

-- ---- a pick

pub pick_falls : ChoiceIsLeast → (d : DeviceState) (ring now : ℕ) → IsSteady d → pick_refusal d ring ≡ None
    → HasLess d.journal (pick_outcome d ring now).1.journal
pick_falls choices d ring now steady free = by_choice (choice d ring) refl free
  where
    by_choice : (o : Option ℕ) → choice d ring ≡ o
        → option_map_or (λ f. when (nat_lt (free_credits d ring) (credits_of d ring f)) (NoCredit (credits_of d ring f) (free_credits d ring))) o (Some Idle) ≡ None
        → HasLess d.journal (at_record {A = Answer × DeviceState} d (λ number r. (answer.Picked number (is_guilty d r.job.entity), picked_device d ring now number)) (answer.Ok, d) o).1.journal
    by_choice None is fits = absurd (cc (fits))
    by_choice (Some f) is fits =
        let least = ((choices d ring steady).some f).0 is in
        let r = least.may.head in
        let at : slice_get d.journal f ≡ Some r = least.may.first.at in
        let two = queued_has_two r.phase least.may.first.queued in
        subst
        (λ o. HasLess d.journal (option_map_or {U = Answer × DeviceState} (λ r. (answer.Picked f (is_guilty d r.job.entity), picked_device d ring now f)) o (answer.Ok, d)).1.journal)
        (sym at)
        (record {
          number = f;
          earlier = r;
          later = record r { phase = Scheduled; is_skipped = is_guilty d r.job.entity || r.is_skipped };
          stood = at;
          stands = changed_stands d.journal f r (λ q. record q { phase = Scheduled; is_skipped = is_guilty d q.job.entity || q.is_skipped }) at;
          fewer = omega (arith, two);
        })

-- ---- a packet

abbrev pub stepped : DeviceState → ℕ → JobRecord → Answer × DeviceState
stepped d f r = option_map_or (stepped_by d f) (slice_get r.job.packets r.ran) (answer.Ok, d)

abbrev one_more_ran : JobRecord → JobRecord
one_more_ran r = record r { ran = r.ran + 1 }

pub step_falls : (d : DeviceState) (ring : ℕ) → runs_packet (step_outcome d ring).0 ≡ true → HasLess d.journal (step_outcome d ring).1.journal
step_falls d ring ran = by_current (current_of d ring) ran
  where
    by_stall : (f : ℕ) (r : JobRecord) (p : Packet) → slice_get d.journal f ≡ Some r → slice_get r.job.packets r.ran ≡ Some p → (b : Bool) (k : ℕ)
        → runs_packet (cond {A = Answer × DeviceState} b (answer.Stalled f, d) (answer.Ran f k, ran_device d f p)).0 ≡ true
        → HasLess d.journal (cond {A = Answer × DeviceState} b (answer.Stalled f, d) (answer.Ran f k, ran_device d f p)).1.journal
    by_stall f r p at has true k ran = absurd (cc (ran))
    by_stall f r p at has false k ran = record {
      number = f;
      earlier = r;
      later = one_more_ran r;
      stood = at;
      stands = changed_stands d.journal f r one_more_ran at;
      fewer = omega (arith, slice_get_within r.job.packets r.ran p has);
    }

    by_packet : (f : ℕ) (r : JobRecord) → slice_get d.journal f ≡ Some r → (o : Option Packet) → slice_get r.job.packets r.ran ≡ o
        → runs_packet (option_map_or (stepped_by d f) o (answer.Ok, d)).0 ≡ true → HasLess d.journal (option_map_or (stepped_by d f) o (answer.Ok, d)).1.journal
    by_packet f r at None has ran = absurd (cc (ran))
    by_packet f r at (Some p) has ran =
        by_stall f r p at has (is_at d.journal f (λ q. must_stall p q.karma.resets)) (option_map_or (λ q. q.ran) (slice_get d.journal f) 0) ran

    by_record : (f : ℕ) (o : Option JobRecord) → slice_get d.journal f ≡ o → runs_packet (option_map_or (stepped d f) o (answer.Ok, d)).0 ≡ true
        → HasLess d.journal (option_map_or (stepped d f) o (answer.Ok, d)).1.journal
    by_record f None at ran = absurd (cc (ran))
    by_record f (Some r) at ran = by_packet f r at (slice_get r.job.packets r.ran) refl ran

    by_current : (o : Option ℕ) → runs_packet (at_record d (stepped d) (answer.Ok, d) o).0 ≡ true → HasLess d.journal (at_record d (stepped d) (answer.Ok, d) o).1.journal
    by_current None ran = absurd (cc (ran))
    by_current (Some f) ran = by_record f (slice_get d.journal f) refl ran

-- ---- an end

abbrev ended_record : Outcome → JobRecord → JobRecord
ended_record o r = record r { phase = Ended o }

pub finish_falls : (d : DeviceState) (ring now : ℕ) → IsLawfulDevice d → ring < length d.spec.rings → finish_refusal d ring ≡ None
    → HasLess d.journal (finish_outcome d ring now).1.journal
finish_falls d ring now lawful here free = by_head (head_of d ring) refl free
  where
    by_head : (o : Option ℕ) → head_of d ring ≡ o → option_map_or (λ f. when (not (is_at d.journal f is_complete)) NotComplete) o (Some Idle) ≡ None
        → HasLess d.journal (at_record {A = Answer × DeviceState} d (λ number r. (answer.Finished number (final_outcome r), finished_device d ring now number (final_outcome r))) (answer.Ok, d) o).1.journal
    by_head None is complete = absurd (cc (complete))
    by_head (Some f) is complete =
        let (r, head) = head_there d ring f lawful here is in
        let one = ap phases_left head.phase in
        subst
        (λ o. HasLess d.journal (option_map_or {U = Answer × DeviceState} (λ r. (answer.Finished f (final_outcome r), finished_device d ring now f (final_outcome r))) o (answer.Ok, d)).1.journal)
        (sym head.at)
        (record {
          number = f;
          earlier = r;
          later = ended_record (final_outcome r) r;
          stood = head.at;
          stands = changed_stands d.journal f r (ended_record (final_outcome r)) head.at;
          fewer = omega (arith, one);
        })

-- ---- a reap

pub reap_falls : (d : DeviceState) (entity : ℕ) → reap_refusal d entity ≡ None → HasLess d.journal (reap_outcome d entity).1.journal
reap_falls d entity free = by_head (first (queue_of entity d.journal)) refl free
  where
    by_head : (o : Option (ℕ × JobRecord)) → first (queue_of entity d.journal) ≡ o
        → first_of (when (not (is_stopped d entity) || is_none o) Nothing ∷ option_map_or (λ (n : ℕ × JobRecord). when (must_still_wait d.journal n.0 n.1) Waits) o None ∷ []) ≡ None
        → HasLess d.journal (option_map_or {U = Answer × DeviceState} (λ (n : ℕ × JobRecord). (answer.Reaped n.0, record d { journal = ended_at d.journal n.0 outcome.Stopped })) o (answer.Ok, d)).1.journal
    by_head None is may =
        absurd (let never : Some Nothing ≡ None = sym (ap (λ b. first_of (when b Nothing ∷ None ∷ [])) (or_true (not (is_stopped d entity)))) ∙ may in cc (never))
    by_head (Some n) is may =
        let (k, place, at_place, passes) = place_of_first (λ m. (m.1.job.entity == entity) && is_queued m.1.phase) d.journal 0 n is in
        let same : k ≡ n.0 = omega (arith, place) in
        let at : slice_get d.journal n.0 ≡ Some n.1 = subst (λ i. slice_get d.journal i ≡ Some n.1) same at_place in
        let two = queued_has_two n.1.phase (and_parts (n.1.job.entity == entity) (is_queued n.1.phase) passes).1 in
        record {
          number = n.0;
          earlier = n.1;
          later = ended_record outcome.Stopped n.1;
          stood = at;
          stands = changed_stands d.journal n.0 n.1 (ended_record outcome.Stopped) at;
          fewer = omega (arith, two);
        }

-- ---- a hang

-- the entity of a job is there
pub entity_there : (spec : DeviceSpec) (job : Draft) → IsJob spec job → job.entity < length spec.entities
entity_there spec job is =
    ltb-true job.entity (length spec.entities)
    (none_when (nat_lt job.entity (length spec.entities)) NoEntity (none_at (job_tests spec job) 0 (when (not (nat_lt job.entity (length spec.entities))) NoEntity) is refl))

-- a hang that is still counted counts one reset more
one_reset_more : (d : DeviceState) (r : JobRecord) → IsJob d.spec r.job → r.karma.resets < 65535 → (hung d r).karma.resets ≡ r.karma.resets + 1
one_reset_more d r is few =
    let (e, at) = stands_within d.spec.entities r.job.entity (entity_there d.spec r.job is) in
    ap (λ o. (option_map_or (λ (e : EntitySpec). blamed e.priority r.karma) o r.karma).resets) at
    ∙ ap (λ b. cond b r.karma.resets (r.karma.resets + 1)) (ne_eqb r.karma.resets 65535 (λ same. absurd (omega (arith, same, few))))

-- and is one of those that the job asks for
hang_lessens : (d : DeviceState) (r : JobRecord) → IsJob d.spec r.job → waits_for_reset r ≡ true → work_left (hung d r) < work_left r
hang_lessens d r is waits = by_packet (slice_get r.job.packets r.ran) refl two.1
  where
    two : ((not (is_complete r) && nat_lt r.karma.resets 65535) ≡ true) × (option_map_or (λ packet. must_stall packet r.karma.resets) (slice_get r.job.packets r.ran) false ≡ true)
    two = and_parts (not (is_complete r) && nat_lt r.karma.resets 65535) (option_map_or (λ packet. must_stall packet r.karma.resets) (slice_get r.job.packets r.ran) false) waits

    few : r.karma.resets < 65535
    few = ltb-true r.karma.resets 65535 (and_parts (not (is_complete r)) (nat_lt r.karma.resets 65535) two.0).1

    by_asked : r.karma.resets < resets_asked r.job.packets → work_left (hung d r) < work_left r
    by_asked asked = omega (arith, one_reset_more d r is few, asked)

    stall_asks : (p : Packet) → must_stall p r.karma.resets ≡ true → r.karma.resets < resets_of p
    stall_asks (Fill buffer offset len byte) stalls = absurd (cc (stalls))
    stall_asks (Copy source source_offset target target_offset len) stalls = absurd (cc (stalls))
    stall_asks (Add source source_offset target target_offset len) stalls = absurd (cc (stalls))
    stall_asks (Stall k) stalls = omega (arith, ltb-true r.karma.resets k stalls, few)

    by_packet : (o : Option Packet) → slice_get r.job.packets r.ran ≡ o → option_map_or (λ packet. must_stall packet r.karma.resets) o false ≡ true
        → work_left (hung d r) < work_left r
    by_packet None has stalls = absurd (cc (stalls))
    by_packet (Some p) has stalls = by_asked (omega (arith, asked_at r.job.packets r.ran p has, stall_asks p stalls))

pub hang_falls : (d : DeviceState) (ring now : ℕ) → IsLawfulDevice d → is_late d ring now ≡ true
    → option_map_or (λ head. is_at d.journal head waits_for_reset) (head_of d ring) false ≡ true → HasLess d.journal (timeout_outcome d ring now).1.journal
hang_falls d ring now lawful late waits = by_head (head_of d ring) waits
  where
    by_guilt : (f : ℕ) (r : JobRecord) → slice_get d.journal f ≡ Some r → work_left (hung d r) < work_left r → (b : Bool)
        → HasLess d.journal (cond {A = Answer × DeviceState} b (answer.Guilty r.job.entity, condemned_device (hung_device d ring now f) ring r.job.entity) (answer.Resumed, hung_device d ring now f)).1.journal
    by_guilt f r at lessens true = record {
      number = f;
      earlier = r;
      later = condemned ring r.job.entity (hung d r);
      stood = at;
      stands = slice_get-map (condemned ring r.job.entity) (changed_at d.journal f (hung d)) f ∙ ap (option_map (condemned ring r.job.entity)) (changed_stands d.journal f r (hung d) at);
      fewer = lessens;
    }
    by_guilt f r at lessens false = record {
      number = f;
      earlier = r;
      later = hung d r;
      stood = at;
      stands = changed_stands d.journal f r (hung d) at;
      fewer = lessens;
    }

    by_late : (f : ℕ) (r : JobRecord) → slice_get d.journal f ≡ Some r → waits_for_reset r ≡ true
        → HasLess d.journal (timeout_at d ring now f r).1.journal
    by_late f r at waiting =
        let parts = and_parts (not (is_complete r) && nat_lt r.karma.resets 65535) (option_map_or (λ packet. must_stall packet r.karma.resets) (slice_get r.job.packets r.ran) false) waiting in
        let incomplete = not-true (is_complete r) (and_parts (not (is_complete r)) (nat_lt r.karma.resets 65535) parts.0).0 in
        let old = not-true (nat_lt (age_of d ring now) (limit_of (λ l. l.timeout) d ring)) late in
        subst
        (λ b. HasLess d.journal (cond {A = Answer × DeviceState} b (answer.NotYet (limit_of (λ l. l.timeout) d ring - age_of d ring now), d)
        (cond {A = Answer × DeviceState} (is_complete r) (answer.Complete, d) (hang_outcome d ring now f r))).1.journal)
        (sym old)
        (subst
        (λ b. HasLess d.journal (cond {A = Answer × DeviceState} b (answer.Complete, d) (hang_outcome d ring now f r)).1.journal)
        (sym incomplete)
        (by_guilt f r at (hang_lessens d r (lawful.records f r at).job waiting) (is_too_much d ring r)))

    by_record : (f : ℕ) (o : Option JobRecord) → slice_get d.journal f ≡ o → option_map_or waits_for_reset o false ≡ true
        → HasLess d.journal (option_map_or (timeout_at d ring now f) o (answer.Empty, d)).1.journal
    by_record f None at waiting = absurd (cc (waiting))
    by_record f (Some r) at waiting = by_late f r at waiting

    by_head : (o : Option ℕ) → option_map_or (λ head. is_at d.journal head waits_for_reset) o false ≡ true
        → HasLess d.journal (at_record d (timeout_at d ring now) (answer.Empty, d) o).1.journal
    by_head None waiting = absurd (cc (waiting))
    by_head (Some f) waiting = by_record f (slice_get d.journal f) refl waiting

-- ---- each of them

pub each_falls : DevicesStaySteady → ChoiceIsLeast → WorkFalls
each_falls laws choices d now (Going.Pick ring) steady comes =
    let parts = and_parts (nat_lt ring (length d.spec.rings)) (is_none (pick_refusal d ring)) comes in
    let here = ltb-true ring (length d.spec.rings) parts.0 in
    let free = none_is (pick_refusal d ring) parts.1 in
    device_falls d (pick_outcome d ring now).1 ((laws.events d steady).picks ring now here free) (pick_falls choices d ring now steady free)
each_falls laws choices d now (Going.Step ring) steady comes =
    let parts = and_parts (nat_lt ring (length d.spec.rings)) (runs_packet (step_outcome d ring).0) comes in
    device_falls d (step_outcome d ring).1 ((laws.events d steady).steps ring (ltb-true ring (length d.spec.rings) parts.0)) (step_falls d ring parts.1)
each_falls laws choices d now (Going.Finish ring) steady comes =
    let parts = and_parts (nat_lt ring (length d.spec.rings)) (is_none (finish_refusal d ring)) comes in
    let here = ltb-true ring (length d.spec.rings) parts.0 in
    let free = none_is (finish_refusal d ring) parts.1 in
    device_falls d (finish_outcome d ring now).1 ((laws.events d steady).finishes ring now here free) (finish_falls d ring now steady.lawful here free)
each_falls laws choices d now (Going.Hang ring) steady comes =
    let waits = option_map_or (λ head. is_at d.journal head waits_for_reset) (head_of d ring) false in
    let parts = and_parts (nat_lt ring (length d.spec.rings) && is_late d ring now) waits comes in
    let early = and_parts (nat_lt ring (length d.spec.rings)) (is_late d ring now) parts.0 in
    device_falls d (timeout_outcome d ring now).1 ((laws.events d steady).timeouts ring now (ltb-true ring (length d.spec.rings) early.0))
    (hang_falls d ring now steady.lawful early.1 parts.1)
each_falls laws choices d now (Going.Reap entity) steady comes =
    let parts = and_parts (nat_lt entity (length d.spec.entities)) (is_none (reap_refusal d entity)) comes in
    let free = none_is (reap_refusal d entity) parts.1 in
    device_falls d (reap_outcome d entity).1 ((laws.events d steady).reaps entity free) (reap_falls d entity free)
