-- What other calls leave of a packet that is out: all of it.
use Rattle.std.proofs.Common.{◌≡◌, ◌≢◌, ℕ, ◌-◌, ◌<◌, Bool, true, false, not, cond, ◌||◌, List, [], ◌∷◌, ◌++◌, length, Some, None, Option, refl, sym, ap, subst, ◌∙◌, inl, inr, slice_get}
use Rattle.std.specs.Option.{option_map_or}
use Rattle.std.specs.Prelude.{◌&&◌, ◌==◌, is_none, nat_lt, find, option_map}
use Rattle.std.proofs.lemmas.Bool.{both_ways, not-false, cases_eq, ne_eqb}
use Rattle.std.proofs.lemmas.Option.{slice_get_within}
use Rattle.drm_lists.proofs.Places.{contains_at, to_map, get_before_push}
use Rattle.drm_lists.proofs.Changed.{get_set_other}
use Rattle.drm_types.specs.Firsts.{when, first}
use Rattle.drm_types.specs.declared.outcome.Outcome.TheVariants as outcome
use Rattle.drm_buffer.specs.Memory.{bytes_of}
use Rattle.drm_fence.specs.declared.phase.Phase.TheVariants.{Scheduled}
use Rattle.drm_fence.specs.Phases.{is_scheduled}
use Rattle.drm_types.proofs.Firsts.{none_first, false_where}
use Rattle.drm_job.specs.declared.Draft.{Draft}
use Rattle.drm_packet.specs.Touches.{touches}
use Rattle.drm_packet.specs.Parts.{target_of, other_bytes}
use Rattle.drm_state.specs.declared.answer.Answer.{Answer}
use Rattle.drm_state.specs.declared.answer.Answer.TheVariants as answer
use Rattle.drm_state.specs.declared.answer.Refusal.TheVariants.{Nothing, Waits}
use Rattle.drm_state.specs.declared.journal.JobRecord.{JobRecord}
use Rattle.drm_state.specs.State.{DeviceState}
use Rattle.drm_state.specs.Arming.{new_record, armed_device}
use Rattle.drm_state.specs.Journal.{is_complete}
use Rattle.drm_state.specs.Choice.{queue_of, choice}
use Rattle.drm_state.specs.Ring.{limit_of, head_of, pending_of, age_of, is_guilty, is_stopped}
use Rattle.drm_state.specs.Refusals.{pick_refusal, finish_refusal, reap_refusal, must_still_wait}
use Rattle.drm_state.specs.Outcomes.{hung as hung_record, condemned, at_record, picked_device, finished_device, final_outcome, hung_device, condemned_device, is_too_much, hang_outcome, timeout_at, pick_outcome, finish_outcome, timeout_outcome, reap_outcome, cancelled_device, ended_at}
use Rattle.drm_state.specs.Steady.{IsSteady}
use Rattle.drm_sched.specs.Marks.{Mark, MarkedDevice, mark_of, out_by, ring_out, IsOut, IsSteadyMarked}
use Rattle.drm_state.proofs.Records.{changed_is}
use Rattle.drm_state.proofs.RanLawful.{current_is, is_going}
use Rattle.drm_state.proofs.FinishLawful.{IsHead, head_is, finish_is, ended}
use Rattle.drm_state.proofs.ChoiceIs.{choice_is}
use Rattle.drm_state.proofs.PickLawful.{pick_is, not_scheduled, given}
use Rattle.drm_state.proofs.HangLawful.{pending_after_hang}
use Rattle.drm_state.proofs.ReapLawful.{reapable}
use Rattle.drm_state.proofs.DeviceSteps.{at_record_is, pick_kept, finish_kept, timeout_kept, reap_kept}
use Rattle.drm_sched.proofs.Marks.{find_agree}

-- the ring's pending jobs stay as they are, and so does the memory; more may be pending behind them
pub record LeavesRing (d n : DeviceState) (ring : ℕ) : Type 0 where
  pub memory : n.memory ≡ d.memory
  pub extra : List ℕ
  pub pending : pending_of n ring ≡ pending_of d ring ++ extra
  pub records : (k g : ℕ) → slice_get (pending_of d ring) k ≡ Some g → slice_get n.journal g ≡ slice_get d.journal g

-- what is found in a list is found in a longer one
find_front : {X : Type 0} (p : X → Bool) (xs ys : List X) (x : X) → find p xs ≡ Some x → find p (xs ++ ys) ≡ Some x
find_front p [] ys x is = absurd (cc (is))
find_front p (z ∷ zs) ys x is =
    elim (p z) as (λ b. cond b (Some z) (find p zs) ≡ Some x → cond b (Some z) (find p (zs ++ ys)) ≡ Some x) [
      | true ↦ λ e. e
      | false ↦ λ e. find_front p zs ys x e
    ] is

-- the record of a pending job
pending_record : (d : DeviceState) (ring k g : ℕ) → IsSteady d → ring < length d.spec.rings → slice_get (pending_of d ring) k ≡ Some g
    → (r : JobRecord) × (slice_get d.journal g ≡ Some r) × (r.phase ≡ Scheduled) × (r.ring ≡ ring)
pending_record d ring k g steady here at = ((steady.lawful.rings ring here).pending g).0 (contains_at (pending_of d ring) k g at)

-- a packet that is out stays so, with the record of its job
left_out : (d n : DeviceState) (ring : ℕ) (m : Mark) (out : IsOut d ring m) → IsSteady d → ring < length d.spec.rings → LeavesRing d n ring
    → IsOut n ring m × (slice_get n.journal m.fence ≡ slice_get d.journal m.fence)
left_out d n ring m out steady here leaves =
    let c = current_is d ring m.fence steady.lawful here out.current in
    let same = leaves.records c.1.place m.fence c.1.stands in
    let going : (k g : ℕ) → slice_get (pending_of d ring) k ≡ Some g → is_going n.journal g ≡ is_going d.journal g =
    λ k g at. ap (λ (o : Option JobRecord). option_map_or (λ r. not (is_complete r)) o false) (leaves.records k g at) in
    let found : find (is_going n.journal) (pending_of d ring) ≡ Some m.fence =
    find_agree (is_going n.journal) (is_going d.journal) (pending_of d ring) going ∙ out.current in (
      record {
        current = ap (find (is_going n.journal)) leaves.pending ∙ find_front (is_going n.journal) (pending_of d ring) leaves.extra m.fence found;
        job = out.job;
        at = same ∙ out.at;
        count = out.count;
        packet = out.packet;
        next = out.next;
        runs = out.runs;
        write = out.write ∙ ap (λ (bs : List (List ℕ)). option_map (bytes_of bs) (target_of out.packet)) (sym leaves.memory);
        read = out.read ∙ ap (other_bytes out.packet) (sym leaves.memory);
      },
      same,
    )

-- the mark of a ring stands in the list
pub mark_there : (marks : List (Option Mark)) (ring : ℕ) (m : Mark) → option_map_or (λ o. o) (slice_get marks ring) None ≡ Some m → ring < length marks
mark_there marks ring m is =
    elim (slice_get marks ring) as (λ o. slice_get marks ring ≡ o → option_map_or (λ x. x) o None ≡ Some m → ring < length marks) [
      | None ↦ λ at e. absurd (cc (e))
      | Some x ↦ λ at e. slice_get_within marks ring x at
    ] refl is

-- a ring that has a packet out is there
pub ring_is_there : (d : MarkedDevice) (ring : ℕ) (m : Mark) → IsSteadyMarked d → mark_of d ring ≡ Some m → ring < length d.state.spec.rings
ring_is_there d ring m steady is = subst (λ c. ring < c) steady.count (mark_there d.marks ring m is)

-- a ring that has nothing out is none of those that have
pub apart_from : (d : MarkedDevice) (ring other : ℕ) (m : Mark) → ring_out d ring ≡ false → mark_of d other ≡ Some m → other ≢ ring
apart_from d ring other m free is same =
    both_ways (ring_out d ring) free (ap (λ o. not (is_none o)) (ap (mark_of d) (sym same) ∙ is))

-- a mark stays, with the buffers of its packet
abbrev pub Stays : DeviceState → DeviceState → ℕ → Mark → Type 0
Stays d n ring m = IsOut n ring m × (out_by n.journal (Some m) ≡ out_by d.journal (Some m))

-- the mark of a ring that is left stays
left_stays : (d : MarkedDevice) (n : DeviceState) (ring : ℕ) (m : Mark) → IsSteadyMarked d → mark_of d ring ≡ Some m → LeavesRing d.state n ring → Stays d.state n ring m
left_stays d n ring m steady is leaves =
    let left = left_out d.state n ring m (steady.out ring m is) steady.state (ring_is_there d ring m steady is) leaves in
    (left.0, ap (λ o. option_map_or touches (option_map_or (λ (r : JobRecord). slice_get r.job.packets m.packet) o None) []) left.1)

-- all marks stay, in a device of the same description
pub record LeavesMarks (d : MarkedDevice) (n : DeviceState) : Type 0 where
  pub spec : n.spec ≡ d.state.spec
  pub stays : (ring : ℕ) (m : Mark) → mark_of d ring ≡ Some m → Stays d.state n ring m

pub marks_stay : (d : MarkedDevice) → IsSteadyMarked d → LeavesMarks d d.state
marks_stay d steady = record { spec = refl; stays = λ ring m is. (steady.out ring m is, refl) }

-- ---- what each event leaves

no_more : (xs : List ℕ) → xs ≡ xs ++ []
no_more [] = refl
no_more (x ∷ xs) = ap (λ ys. x ∷ ys) (no_more xs)

leaves_itself : (d : DeviceState) (ring : ℕ) → LeavesRing d d ring
leaves_itself d ring = record { memory = refl; extra = []; pending = no_more (pending_of d ring); records = λ k g at. refl }

-- a pick, on any ring
pick_leaves : (d : DeviceState) (ring now other : ℕ) → IsSteady d → ring < length d.spec.rings → other < length d.spec.rings
    → LeavesRing d (pick_outcome d ring now).1 other
pick_leaves d ring now other steady here there = by_choice (choice d ring) refl
  where
    by_choice : (o : Option ℕ) → choice d ring ≡ o
        → LeavesRing d (at_record {A = Answer × DeviceState} d (λ number r. (answer.Picked number (is_guilty d r.job.entity), picked_device d ring now number)) (answer.Ok, d) o).1 other
    by_choice None is = leaves_itself d other
    by_choice (Some f) is =
        let c = choice_is d ring f is in
        let p = pick_is d ring f now c.0 steady.lawful here c.1.at in
        let new = picked_device d ring now f in
        let kept : (k g : ℕ) → slice_get (pending_of d other) k ≡ Some g → slice_get new.journal g ≡ slice_get d.journal g =
        λ k g at.
        let x = pending_record d other k g steady there at in
        let apart : g ≢ f = λ e. (let same : x.0 ≡ c.0 = cc (x.1, c.1.at, e) in
        not_scheduled c.0.phase c.1.queued (ap (λ (r : JobRecord). r.phase) (sym same) ∙ x.2)) in
        ap (λ (js : List JobRecord). slice_get js g) p.journal ∙ get_set_other d.journal f g (given d c.0) apart in
        at_record_is (λ q. LeavesRing d q.1 other) d (λ number r. (answer.Picked number (is_guilty d r.job.entity), picked_device d ring now number)) (answer.Ok, d) f c.0 c.1.at
        (elim (cases_eq other ring) [
          | inl same ↦ record {
            memory = refl;
            extra = f ∷ [];
            pending = subst (λ n. pending_of new n ≡ pending_of d n ++ f ∷ []) (sym same) p.here;
            records = kept;
          }
          | inr apart ↦ record { memory = refl; extra = []; pending = p.there other apart ∙ no_more (pending_of d other); records = kept }
        ])

-- the head of another ring is not pending here
head_apart : (d : DeviceState) (ring other f k g : ℕ) (r : JobRecord) → IsSteady d → other < length d.spec.rings → other ≢ ring → slice_get d.journal f ≡ Some r
    → r.ring ≡ ring → slice_get (pending_of d other) k ≡ Some g → g ≢ f
head_apart d ring other f k g r steady there apart at on at_k e =
    let x = pending_record d other k g steady there at_k in
    let same : x.0 ≡ r = cc (x.1, at, e) in
    apart (sym x.3 ∙ (ap (λ (z : JobRecord). z.ring) same ∙ on))

-- the end of another ring's head
finish_leaves : (d : DeviceState) (ring now other : ℕ) → IsSteady d → ring < length d.spec.rings → other < length d.spec.rings → other ≢ ring
    → LeavesRing d (finish_outcome d ring now).1 other
finish_leaves d ring now other steady here there apart = by_head (head_of d ring) refl
  where
    by_head : (o : Option ℕ) → head_of d ring ≡ o
        → LeavesRing d (at_record {A = Answer × DeviceState} d (λ number r. (answer.Finished number (final_outcome r), finished_device d ring now number (final_outcome r))) (answer.Ok, d) o).1 other
    by_head None is = leaves_itself d other
    by_head (Some f) is =
        let h = head_is d ring f steady.lawful here is in
        let p = finish_is d ring f now h.0 (final_outcome h.0) steady.lawful here h.1.at in
        at_record_is (λ q. LeavesRing d q.1 other) d (λ number r. (answer.Finished number (final_outcome r), finished_device d ring now number (final_outcome r))) (answer.Ok, d) f h.0 h.1.at
        (record {
          memory = refl;
          extra = [];
          pending = p.there other apart ∙ no_more (pending_of d other);
          records = λ k g at.
              ap (λ (js : List JobRecord). slice_get js g) p.journal
              ∙ get_set_other d.journal f g (ended (final_outcome h.0) h.0) (head_apart d ring other f k g h.0 steady there apart h.1.at h.1.on_ring at);
        })

-- the condemned jobs are of their ring alone
condemned_apart : (ring e : ℕ) (r : JobRecord) → (r.ring == ring) ≡ false → condemned ring e r ≡ r
condemned_apart ring e r other =
    elim (is_scheduled r.phase) as (λ b. record r { is_skipped = (b && (r.ring == ring) && (r.job.entity == e)) || r.is_skipped } ≡ r) [
      | true ↦ ap (λ b. record r { is_skipped = (b && (r.job.entity == e)) || r.is_skipped }) other
      | false ↦ refl
    ]

-- a timeout of another ring
timeout_leaves : (d : DeviceState) (ring now other : ℕ) → IsSteady d → ring < length d.spec.rings → other < length d.spec.rings → other ≢ ring
    → LeavesRing d (timeout_outcome d ring now).1 other
timeout_leaves d ring now other steady here there apart = by_head (head_of d ring) refl
  where
    by_hang : (f : ℕ) (r : JobRecord) → IsHead d ring f r → LeavesRing d (hang_outcome d ring now f r).1 other
    by_hang f r h =
        let pending = pending_after_hang d ring now f steady.lawful.ring_count here other ∙ no_more (pending_of d other) in
        let kept : (k g : ℕ) → slice_get (pending_of d other) k ≡ Some g → slice_get (hung_device d ring now f).journal g ≡ slice_get d.journal g =
        λ k g at.
        ap (λ (js : List JobRecord). slice_get js g) (changed_is d.journal f r (hung_record d) h.at)
        ∙ get_set_other d.journal f g (hung_record d r) (head_apart d ring other f k g r steady there apart h.at h.on_ring at) in
        elim (is_too_much d ring r) as (λ b. LeavesRing d
        (cond {A = Answer × DeviceState} b
        (answer.Guilty r.job.entity, condemned_device (hung_device d ring now f) ring r.job.entity)
        (answer.Resumed, hung_device d ring now f)).1 other) [
          | true ↦ record {
            memory = refl;
            extra = [];
            pending = pending;
            records = λ k g at.
                let x = pending_record d other k g steady there at in
                to_map (condemned ring r.job.entity) (hung_device d ring now f).journal g x.0 (kept k g at ∙ x.1)
                ∙ (ap (λ (z : JobRecord). Some z) (condemned_apart ring r.job.entity x.0 (ne_eqb x.0.ring ring (λ e. apart (sym x.3 ∙ e)))) ∙ sym x.1);
          }
          | false ↦ record { memory = refl; extra = []; pending = pending; records = kept }
        ]

    by_head : (o : Option ℕ) → head_of d ring ≡ o → LeavesRing d (at_record d (timeout_at d ring now) (answer.Empty, d) o).1 other
    by_head None is = leaves_itself d other
    by_head (Some f) is =
        let h = head_is d ring f steady.lawful here is in
        at_record_is (λ p. LeavesRing d p.1 other) d (timeout_at d ring now) (answer.Empty, d) f h.0 h.1.at
        (elim (nat_lt (age_of d ring now) (limit_of (λ l. l.timeout) d ring)) as (λ b. LeavesRing d
        (cond {A = Answer × DeviceState} b (answer.NotYet (limit_of (λ l. l.timeout) d ring - age_of d ring now), d)
        (cond {A = Answer × DeviceState} (is_complete h.0) (answer.Complete, d) (hang_outcome d ring now f h.0))).1 other) [
          | true ↦ leaves_itself d other
          | false ↦ elim (is_complete h.0) as (λ b. LeavesRing d (cond {A = Answer × DeviceState} b (answer.Complete, d) (hang_outcome d ring now f h.0)).1 other) [
            | true ↦ leaves_itself d other
            | false ↦ by_hang f h.0 h.1
          ]
        ])

-- a cancel, and a reap: that job was queued
cancel_leaves : (d : DeviceState) (e ring : ℕ) → LeavesRing d (cancelled_device d e) ring
cancel_leaves d e ring = record { memory = refl; extra = []; pending = no_more (pending_of d ring); records = λ k g at. refl }

reap_leaves : (d : DeviceState) (e ring : ℕ) → IsSteady d → ring < length d.spec.rings → reap_refusal d e ≡ None → LeavesRing d (reap_outcome d e).1 ring
reap_leaves d e ring steady here may =
    let rest = (none_first (when (not (is_stopped d e) || is_none (first (queue_of e d.journal))) Nothing)
    (option_map_or (λ n. when (must_still_wait d.journal n.0 n.1) Waits) (first (queue_of e d.journal)) None ∷ []) may).1 in
    let waits = (none_first (option_map_or (λ n. when (must_still_wait d.journal n.0 n.1) Waits) (first (queue_of e d.journal)) None) [] rest).0 in
    by_head (first (queue_of e d.journal)) refl waits
  where
    by_head : (o : Option (ℕ × JobRecord)) → first (queue_of e d.journal) ≡ o
        → option_map_or (λ (n : ℕ × JobRecord). when (must_still_wait d.journal n.0 n.1) Waits) o None ≡ None
        → LeavesRing d (option_map_or {U = Answer × DeviceState} (λ (n : ℕ × JobRecord). (answer.Reaped n.0, record d { journal = ended_at d.journal n.0 outcome.Stopped })) o (answer.Ok, d)).1 ring
    by_head None is may = leaves_itself d ring
    by_head (Some n) is may =
        let reap = reapable d e n is (not-false _ (false_where (must_still_wait d.journal n.0 n.1) Waits may)) in
        record {
          memory = refl;
          extra = [];
          pending = no_more (pending_of d ring);
          records = λ k g at.
              let x = pending_record d ring k g steady here at in
              let apart : g ≢ n.0 = λ same. (let is_r : x.0 ≡ n.1 = cc (x.1, reap.at, same) in
              not_scheduled n.1.phase reap.queued (ap (λ (r : JobRecord). r.phase) (sym is_r) ∙ x.2)) in
              ap (λ (js : List JobRecord). slice_get js g) (changed_is d.journal n.0 n.1 (ended outcome.Stopped) reap.at)
              ∙ get_set_other d.journal n.0 g (ended outcome.Stopped n.1) apart;
        }

-- an arming
arm_leaves : (d : DeviceState) (job : Draft) (ring : ℕ) → IsSteady d → ring < length d.spec.rings → LeavesRing d (armed_device d job) ring
arm_leaves d job ring steady here = record {
  memory = refl;
  extra = (leaves_itself d ring).extra;
  pending = (leaves_itself d ring).pending;
  records = λ k g at.
      let x = ((steady.lawful.rings ring here).pending g).0 (contains_at (pending_of d ring) k g at) in
      get_before_push d.journal (new_record d job) g x.0 x.1 ∙ sym x.1;
}

-- ---- so all marks stay

pub pick_leaves_marks : (d : MarkedDevice) (ring now : ℕ) → IsSteadyMarked d → ring < length d.state.spec.rings → pick_refusal d.state ring ≡ None → LeavesMarks d (pick_outcome d.state ring now).1
pick_leaves_marks d ring now steady here may = record {
  spec = (pick_kept d.state ring now steady.state here may).grows.spec;
  stays = λ k m is. left_stays d _ k m steady is (pick_leaves d.state ring now k steady.state here (ring_is_there d k m steady is));
}

pub finish_leaves_marks : (d : MarkedDevice) (ring now : ℕ) → IsSteadyMarked d → ring < length d.state.spec.rings → ring_out d ring ≡ false → finish_refusal d.state ring ≡ None
    → LeavesMarks d (finish_outcome d.state ring now).1
finish_leaves_marks d ring now steady here free may = record {
  spec = (finish_kept d.state ring now steady.state here may).grows.spec;
  stays = λ k m is. left_stays d _ k m steady is (finish_leaves d.state ring now k steady.state here (ring_is_there d k m steady is) (apart_from d ring k m free is));
}

pub timeout_leaves_marks : (d : MarkedDevice) (ring now : ℕ) → IsSteadyMarked d → ring < length d.state.spec.rings → ring_out d ring ≡ false → LeavesMarks d (timeout_outcome d.state ring now).1
timeout_leaves_marks d ring now steady here free = record {
  spec = (timeout_kept d.state ring now steady.state here).grows.spec;
  stays = λ k m is. left_stays d _ k m steady is (timeout_leaves d.state ring now k steady.state here (ring_is_there d k m steady is) (apart_from d ring k m free is));
}

pub cancel_leaves_marks : (d : MarkedDevice) (e : ℕ) → IsSteadyMarked d → LeavesMarks d (cancelled_device d.state e)
cancel_leaves_marks d e steady = record { spec = refl; stays = λ k m is. left_stays d _ k m steady is (cancel_leaves d.state e k) }

pub reap_leaves_marks : (d : MarkedDevice) (e : ℕ) → IsSteadyMarked d → reap_refusal d.state e ≡ None → LeavesMarks d (reap_outcome d.state e).1
reap_leaves_marks d e steady may = record {
  spec = (reap_kept d.state e steady.state may).grows.spec;
  stays = λ k m is. left_stays d _ k m steady is (reap_leaves d.state e k steady.state (ring_is_there d k m steady is) may);
}

pub arm_leaves_marks : (d : MarkedDevice) (job : Draft) → IsSteadyMarked d → LeavesMarks d (armed_device d.state job)
arm_leaves_marks d job steady = record { spec = refl; stays = λ k m is. left_stays d _ k m steady is (arm_leaves d.state job k steady.state (ring_is_there d k m steady is)) }
