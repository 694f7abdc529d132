-- Each call of a device, where it is not refused, leads from a steady device to a steady one that it grows to.
use Rattle.std.proofs.Common.{◌≡◌, ℕ, ◌-◌, ◌<◌, true, false, not, cond, ◌||◌, List, [], ◌∷◌, set, length, Some, None, Option, refl, sym, ap, subst, ◌∙◌, slice_get}
use Rattle.std.specs.Option.{option_map_or}
use Rattle.std.specs.Prelude.{is_none, nat_lt}
use Rattle.std.proofs.lemmas.Bool.{ltb-false, not-false}
use Rattle.std.proofs.lemmas.List.{length-set, length-map}
use Rattle.drm_types.specs.Firsts.{when}
use Rattle.drm_types.proofs.Firsts.{none_first, false_where}
use Rattle.drm_packet.specs.declared.Packet.{Packet}
use Rattle.drm_types.specs.declared.outcome.Outcome.TheVariants as outcome
use Rattle.drm_state.specs.declared.answer.Answer.{Answer}
use Rattle.drm_state.specs.declared.answer.Answer.TheVariants as answer
use Rattle.drm_state.specs.declared.answer.Refusal.TheVariants.{Idle, NoCredit, NotComplete, Nothing, Waits}
use Rattle.drm_state.specs.declared.journal.JobRecord.{JobRecord}
use Rattle.drm_state.specs.State.{DeviceState}
use Rattle.drm_state.specs.Journal.{is_at, is_complete, changed_at}
use Rattle.drm_fence.specs.Phases.{has_ended}
use Rattle.drm_state.specs.Choice.{queue_of, choice}
use Rattle.drm_types.specs.Firsts.{first}
use Rattle.drm_state.specs.Ring.{limit_of, credits_of, free_credits, head_of, current_of, age_of, is_guilty, is_stopped}
use Rattle.drm_state.specs.Refusals.{pick_refusal, finish_refusal, reap_refusal, must_still_wait}
use Rattle.drm_state.specs.Outcomes.{hung as hung_record, condemned, at_record, picked_device, must_stall, ran_device, stepped_by, finished_device, final_outcome, hung_device, condemned_device, is_too_much, hang_outcome, timeout_at, pick_outcome, step_outcome, finish_outcome, timeout_outcome, reap_outcome, cancelled_device, ended_at}
use Rattle.drm_state.specs.Events.{IsKept}
use Rattle.drm_state.specs.Steady.{IsSteady}
use Rattle.drm_state.proofs.Records.{at_test}
use Rattle.drm_state.proofs.RanLawful.{IsCurrent, current_is, ran_steady, one_more_ran}
use Rattle.drm_state.proofs.FinishLawful.{head_is, finish_steady, ended}
use Rattle.drm_state.proofs.ChoiceIs.{choice_is}
use Rattle.drm_state.proofs.PickLawful.{pick_steady, not_ended, given}
use Rattle.drm_state.proofs.HangLawful.{cancel_steady, hang_steady, condemn_steady}
use Rattle.drm_state.proofs.ReapLawful.{reapable, reap_steady, reaped_device}
use Rattle.drm_state.proofs.Growth.{grows_itself, ran_grows, pick_grows, end_grows, hang_grows, condemn_grows, cancel_grows, grows_trans}

-- a change of one record keeps their number
pub changed_count : (journal : List JobRecord) (f : ℕ) (change : JobRecord → JobRecord) → length (changed_at journal f change) ≡ length journal
changed_count journal f change =
    elim (slice_get journal f) as (λ o. length (option_map_or (λ r. set journal f (change r)) o journal) ≡ length journal) [
      | None ↦ refl
      | Some r ↦ length-set journal f (change r)
    ]

pub kept_itself : (d : DeviceState) → IsSteady d → IsKept d d
kept_itself d steady = record { steady = steady; grows = grows_itself d; count = refl }

-- what is done at a record that is there
pub at_record_is : (P : Answer × DeviceState → Type 0) (d : DeviceState) (F : ℕ → JobRecord → Answer × DeviceState) (none : Answer × DeviceState) (f : ℕ) (r : JobRecord)
    → slice_get d.journal f ≡ Some r → P (F f r) → P (at_record d F none (Some f))
at_record_is P d F none f r at holds = subst (λ o. P (option_map_or (F f) o none)) (sym at) holds

pub pick_kept : (d : DeviceState) (ring now : ℕ) → IsSteady d → ring < length d.spec.rings → pick_refusal d ring ≡ None → IsKept d (pick_outcome d ring now).1
pick_kept d ring now steady here may = by_choice (choice d ring) refl may
  where
    by_choice : (o : Option ℕ) → choice d ring ≡ o
        → option_map_or (λ f. when (nat_lt (free_credits d ring) (credits_of d ring f)) (NoCredit (credits_of d ring f) (free_credits d ring))) o (Some Idle) ≡ None
        → IsKept d (at_record {A = Answer × DeviceState} d (λ number r. (answer.Picked number (is_guilty d r.job.entity), picked_device d ring now number)) (answer.Ok, d) o).1
    by_choice None is refused = absurd (cc (refused))
    by_choice (Some f) is fits =
        let c = choice_is d ring f is in
        let room = ltb-false (free_credits d ring) (credits_of d ring f)
        (false_where (nat_lt (free_credits d ring) (credits_of d ring f)) (NoCredit (credits_of d ring f) (free_credits d ring)) fits) in
        at_record_is (λ p. IsKept d p.1) d (λ number r. (answer.Picked number (is_guilty d r.job.entity), picked_device d ring now number)) (answer.Ok, d) f c.0 c.1.at
        (record { steady = pick_steady d ring f now c.0 steady here c.1 room; grows = pick_grows d ring now f c.0 c.1.at c.1.queued; count = changed_count d.journal f (given d) })

pub step_kept : (d : DeviceState) (ring : ℕ) → IsSteady d → ring < length d.spec.rings → IsKept d (step_outcome d ring).1
step_kept d ring steady here = by_current (current_of d ring) refl
  where
    by_packet : (f : ℕ) (r : JobRecord) → slice_get d.journal f ≡ Some r → current_of d ring ≡ Some f → (o : Option Packet) → slice_get r.job.packets r.ran ≡ o
        → IsKept d (option_map_or (stepped_by d f) o (answer.Ok, d)).1
    by_packet f r at is None none = kept_itself d steady
    by_packet f r at is (Some p) next =
        let c = current_is d ring f steady.lawful here is in
        let same : c.0 ≡ r = cc (c.1.at, at) in
        let now = subst (λ z. IsCurrent d ring f z) same c.1 in
        elim (is_at d.journal f (λ r. must_stall p r.karma.resets)) as (λ b. IsKept d
        (cond {A = Answer × DeviceState} b (answer.Stalled f, d) (answer.Ran f (option_map_or (λ r. r.ran) (slice_get d.journal f) 0), ran_device d f p)).1) [
          | true ↦ kept_itself d steady
          | false ↦ record { steady = ran_steady d ring f r p steady here now next; grows = ran_grows d f r p now.at now.phase now.going; count = changed_count d.journal f one_more_ran }
        ]

    by_current : (o : Option ℕ) → current_of d ring ≡ o
        → IsKept d (at_record {A = Answer × DeviceState} d (λ number r. option_map_or (stepped_by d number) (slice_get r.job.packets r.ran) (answer.Ok, d)) (answer.Ok, d) o).1
    by_current None is = kept_itself d steady
    by_current (Some f) is =
        let c = current_is d ring f steady.lawful here is in
        at_record_is (λ p. IsKept d p.1) d (λ number r. option_map_or (stepped_by d number) (slice_get r.job.packets r.ran) (answer.Ok, d)) (answer.Ok, d) f c.0 c.1.at
        (by_packet f c.0 c.1.at is (slice_get c.0.job.packets c.0.ran) refl)

pub finish_kept : (d : DeviceState) (ring now : ℕ) → IsSteady d → ring < length d.spec.rings → finish_refusal d ring ≡ None → IsKept d (finish_outcome d ring now).1
finish_kept d ring now steady here may = by_head (head_of d ring) refl may
  where
    by_head : (o : Option ℕ) → head_of d ring ≡ o → option_map_or (λ f. when (not (is_at d.journal f is_complete)) NotComplete) o (Some Idle) ≡ None
        → IsKept d (at_record {A = Answer × DeviceState} d (λ number r. (answer.Finished number (final_outcome r), finished_device d ring now number (final_outcome r))) (answer.Ok, d) o).1
    by_head None is refused = absurd (cc (refused))
    by_head (Some f) is may =
        let h = head_is d ring f steady.lawful here is in
        let complete : is_complete h.0 ≡ true =
        sym (at_test d.journal f h.0 is_complete h.1.at) ∙ not-false (is_at d.journal f is_complete) (false_where (not (is_at d.journal f is_complete)) NotComplete may) in
        at_record_is (λ p. IsKept d p.1) d (λ number r. (answer.Finished number (final_outcome r), finished_device d ring now number (final_outcome r))) (answer.Ok, d) f h.0 h.1.at
        (record {
          steady = finish_steady d ring f now h.0 steady here h.1 complete;
          grows = end_grows d (finished_device d ring now f (final_outcome h.0)) f h.0 (final_outcome h.0) h.1.at (ap has_ended h.1.phase) refl refl refl;
          count = changed_count d.journal f (ended (final_outcome h.0));
        })

pub timeout_kept : (d : DeviceState) (ring now : ℕ) → IsSteady d → ring < length d.spec.rings → IsKept d (timeout_outcome d ring now).1
timeout_kept d ring now steady here = by_head (head_of d ring) refl
  where
    by_hang : (f : ℕ) (r : JobRecord) → slice_get d.journal f ≡ Some r → IsKept d (hang_outcome d ring now f r).1
    by_hang f r at =
        let hung = hang_steady d ring now f r steady here at in
        elim (is_too_much d ring r) as (λ b. IsKept d
        (cond {A = Answer × DeviceState} b
        (answer.Guilty r.job.entity, condemned_device (hung_device d ring now f) ring r.job.entity)
        (answer.Resumed, hung_device d ring now f)).1) [
          | true ↦ record {
            steady = condemn_steady (hung_device d ring now f) ring r.job.entity hung;
            grows = grows_trans d (hung_device d ring now f) (condemned_device (hung_device d ring now f) ring r.job.entity)
                (hang_grows d ring now f r at) (condemn_grows (hung_device d ring now f) ring r.job.entity);
            count = length-map (hung_device d ring now f).journal (condemned ring r.job.entity) ∙ changed_count d.journal f (hung_record d);
          }
          | false ↦ record { steady = hung; grows = hang_grows d ring now f r at; count = changed_count d.journal f (hung_record d) }
        ]

    by_head : (o : Option ℕ) → head_of d ring ≡ o → IsKept d (at_record d (timeout_at d ring now) (answer.Empty, d) o).1
    by_head None is = kept_itself d steady
    by_head (Some f) is =
        let h = head_is d ring f steady.lawful here is in
        at_record_is (λ p. IsKept d p.1) d (timeout_at d ring now) (answer.Empty, d) f h.0 h.1.at
        (elim (nat_lt (age_of d ring now) (limit_of (λ l. l.timeout) d ring)) as (λ b. IsKept d
        (cond {A = Answer × DeviceState} b (answer.NotYet (limit_of (λ l. l.timeout) d ring - age_of d ring now), d)
        (cond {A = Answer × DeviceState} (is_complete h.0) (answer.Complete, d) (hang_outcome d ring now f h.0))).1) [
          | true ↦ kept_itself d steady
          | false ↦ elim (is_complete h.0) as (λ b. IsKept d (cond {A = Answer × DeviceState} b (answer.Complete, d) (hang_outcome d ring now f h.0)).1) [
            | true ↦ kept_itself d steady
            | false ↦ by_hang f h.0 h.1.at
          ]
        ])

pub cancel_kept : (d : DeviceState) (e : ℕ) → IsSteady d → IsKept d (cancelled_device d e)
cancel_kept d e steady = record { steady = cancel_steady d e steady; grows = cancel_grows d e; count = refl }

pub reap_kept : (d : DeviceState) (e : ℕ) → IsSteady d → reap_refusal d e ≡ None → IsKept d (reap_outcome d e).1
reap_kept d e steady may =
    let rest = (none_first (when (not (is_stopped d e) || is_none (first (queue_of e d.journal))) Nothing)
    (option_map_or (λ n. when (must_still_wait d.journal n.0 n.1) Waits) (first (queue_of e d.journal)) None ∷ []) may).1 in
    let waits = (none_first (option_map_or (λ n. when (must_still_wait d.journal n.0 n.1) Waits) (first (queue_of e d.journal)) None) [] rest).0 in
    by_head (first (queue_of e d.journal)) refl waits
  where
    by_head : (o : Option (ℕ × JobRecord)) → first (queue_of e d.journal) ≡ o
        → option_map_or (λ (n : ℕ × JobRecord). when (must_still_wait d.journal n.0 n.1) Waits) o None ≡ None
        → IsKept d (option_map_or {U = Answer × DeviceState} (λ (n : ℕ × JobRecord). (answer.Reaped n.0, record d { journal = ended_at d.journal n.0 outcome.Stopped })) o (answer.Ok, d)).1
    by_head None is may = kept_itself d steady
    by_head (Some n) is may =
        let reap = reapable d e n is (not-false _ (false_where (must_still_wait d.journal n.0 n.1) Waits may)) in
        record {
          steady = reap_steady d n.0 n.1 steady reap;
          grows = end_grows d (reaped_device d n.0) n.0 n.1 outcome.Stopped reap.at (not_ended n.1.phase reap.queued) refl refl refl;
          count = changed_count d.journal n.0 (ended outcome.Stopped);
        }
