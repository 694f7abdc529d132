-- What the calls of a device leave of its fences' words.
use Rattle.std.proofs.Common.{◌≡◌, ◌≢◌, ℕ, zero, suc, ◌+◌, ◌<◌, ◌≤◌, ◌-◌, true, false, not, cond, ◌||◌, List, [], ◌∷◌, ◌++◌, set, map, length, Some, None, Option, refl, sym, ap, subst, ◌∙◌, arith, slice_get}
use Rattle.std.specs.Option.{option_map_or}
use Rattle.std.specs.Prelude.{nat_lt, is_none}
use Rattle.std.proofs.lemmas.Bool.{not-false}
use Rattle.drm_types.specs.declared.outcome.Outcome.{Outcome}
use Rattle.drm_types.specs.declared.outcome.Outcome.TheVariants as outcome
use Rattle.drm_types.specs.Firsts.{first, when}
use Rattle.drm_types.proofs.Firsts.{none_first, false_where}
use Rattle.drm_job.specs.declared.Draft.{Draft}
use Rattle.drm_fence.specs.declared.phase.Phase.{Phase}
use Rattle.drm_fence.specs.declared.phase.Phase.TheVariants.{Queued, Scheduled, Ended}
use Rattle.drm_fence.specs.Phases.{is_queued}
use Rattle.drm_resv.specs.Reservation.{Reservation}
use Rattle.drm_state.specs.declared.answer.Finished.{Finished}
use Rattle.drm_state.specs.declared.answer.Answer.{Answer}
use Rattle.drm_state.specs.declared.answer.Answer.TheVariants as answer
use Rattle.drm_state.specs.declared.answer.Refusal.TheVariants.{Nothing, Waits}
use Rattle.drm_state.specs.declared.journal.JobRecord.{JobRecord}
use Rattle.drm_state.specs.Answers.{finished}
use Rattle.drm_state.specs.Arming.{armed_device, new_record}
use Rattle.drm_state.specs.Choice.{choice, queue_of}
use Rattle.drm_state.specs.Journal.{is_at, is_complete, changed_at}
use Rattle.drm_state.specs.Keeps.{word_of, word_at, Keeps, KeepsBut, KeepsArmed}
use Rattle.drm_state.specs.Outcomes.{at_record, picked_device, must_stall, ran_device, stepped_by, finished_device, final_outcome, hung, hung_device, condemned, condemned_device, is_too_much, hang_outcome, timeout_at, pick_outcome, step_outcome, finish_outcome, timeout_outcome, reap_outcome, ended_at}
use Rattle.drm_state.specs.Refusals.{arm_refusal, reap_refusal, must_still_wait}
use Rattle.drm_state.specs.Reservation.{Fits}
use Rattle.drm_state.specs.Ring.{limit_of, head_of, current_of, age_of, is_guilty, is_stopped}
use Rattle.drm_state.specs.State.{DeviceState}
use Rattle.std.proofs.lemmas.Option.{slice_get_within}
use Rattle.drm_lists.proofs.Changed.{get_set_same, get_set_other}
use Rattle.drm_table.proofs.ArmDone.{may_arm}
use Rattle.drm_state.proofs.ChoiceIs.{choice_is}
use Rattle.drm_state.proofs.Covering.{not_declared}
use Rattle.drm_state.specs.Events.{IsKept}
use Rattle.drm_state.proofs.FitsKept.{fits_kept, unused_fits, get_at_push}
use Rattle.drm_state.proofs.PickLawful.{given}
use Rattle.drm_state.proofs.ReapLawful.{reapable}
use Rattle.drm_state.proofs.Records.{changed_is}

-- ---- one record

word_queued : (p : Phase) → is_queued p ≡ true → word_of p ≡ 1
word_queued Queued is = refl
word_queued Scheduled is = absurd (let never : false ≡ true = is in cc (never))
word_queued (Ended o) is = absurd (let never : false ≡ true = is in cc (never))

-- where the changed record shows what the old one showed, each fence does
pub word_set : (js : List JobRecord) (f : ℕ) (r n : JobRecord) → slice_get js f ≡ Some r → word_of n.phase ≡ word_of r.phase → (g : ℕ) → word_at (set js f n) g ≡ word_at js g
word_set [] f r n at same g = absurd (cc (at))
word_set (x ∷ xs) zero r n at same zero = let e : x ≡ r = cc (at) in same ∙ ap (λ (z : JobRecord). word_of z.phase) (sym e)
word_set (x ∷ xs) zero r n at same (suc g) = refl
word_set (x ∷ xs) (suc f) r n at same zero = refl
word_set (x ∷ xs) (suc f) r n at same (suc g) = word_set xs f r n at same g

pub word_changed : (js : List JobRecord) (f : ℕ) (change : JobRecord → JobRecord) → ((r : JobRecord) → slice_get js f ≡ Some r → word_of (change r).phase ≡ word_of r.phase)
    → (g : ℕ) → word_at (changed_at js f change) g ≡ word_at js g
word_changed js f change same g =
    elim (slice_get js f) as (λ o. slice_get js f ≡ o → word_at (option_map_or (λ r. set js f (change r)) o js) g ≡ word_at js g) [
      | None ↦ λ at. refl
      | Some r ↦ λ at. word_set js f r (change r) at (same r at) g
    ] refl

pub word_map : (c : JobRecord → JobRecord) → ((r : JobRecord) → word_of (c r).phase ≡ word_of r.phase) → (js : List JobRecord) (g : ℕ) → word_at (map c js) g ≡ word_at js g
word_map c same [] g = refl
word_map c same (x ∷ xs) zero = same x
word_map c same (x ∷ xs) (suc g) = word_map c same xs g

pub word_push : (js : List JobRecord) (r : JobRecord) (g : ℕ) → g ≢ length js → word_at (js ++ r ∷ []) g ≡ word_at js g
word_push [] r zero ne = absurd (ne refl)
word_push [] r (suc g) ne = refl
word_push (x ∷ xs) r zero ne = refl
word_push (x ∷ xs) r (suc g) ne = word_push xs r g (λ e. ne (ap suc e))

-- the record of a job that ends
abbrev ends : Outcome → JobRecord → JobRecord
ends o r = record r { phase = Ended o }

word_ended : (js : List JobRecord) (f : ℕ) (r : JobRecord) (o : Outcome) → slice_get js f ≡ Some r → word_at (ended_at js f o) f ≡ word_of (Ended o)
word_ended js f r o at =
    ap (λ xs. word_at xs f) (changed_is js f r (ends o) at)
    ∙ ap (λ z. option_map_or (λ (z : JobRecord). word_of z.phase) z 0) (get_set_same js f r (ends o r) at)

word_beside : (js : List JobRecord) (f : ℕ) (r : JobRecord) (o : Outcome) → slice_get js f ≡ Some r → (g : ℕ) → g ≢ f → word_at (ended_at js f o) g ≡ word_at js g
word_beside js f r o at g ne =
    ap (λ xs. word_at xs g) (changed_is js f r (ends o) at)
    ∙ ap (λ z. option_map_or (λ (z : JobRecord). word_of z.phase) z 0) (get_set_other js f g (ends o r) ne)

-- ---- each call

-- each fence shows what it showed
abbrev pub SameWords : DeviceState → DeviceState → Type 0
SameWords d e = (g : ℕ) → word_at e.journal g ≡ word_at d.journal g

pub pick_words : (d : DeviceState) (ring now : ℕ) → SameWords d (pick_outcome d ring now).1
pick_words d ring now g = by_choice (choice d ring) refl
  where
    by_choice : (o : Option ℕ) → choice d ring ≡ o
        → word_at (at_record {A = Answer × DeviceState} d (λ number r. (answer.Picked number (is_guilty d r.job.entity), picked_device d ring now number)) (answer.Ok, d) o).1.journal g ≡ word_at d.journal g
    by_choice None is = refl
    by_choice (Some f) is =
        let c = choice_is d ring f is in
        elim (slice_get d.journal f) as (λ o. word_at (option_map_or {U = Answer × DeviceState} (λ r. (answer.Picked f (is_guilty d r.job.entity), picked_device d ring now f)) o (answer.Ok, d)).1.journal g ≡ word_at d.journal g) [
          | None ↦ refl
          | Some r ↦ word_changed d.journal f (given d)
              (λ x at. let same : c.0 ≡ x = cc (c.1.at, at) in sym (word_queued x.phase (subst (λ (z : JobRecord). is_queued z.phase ≡ true) same c.1.queued))) g
        ]

pub step_words : (d : DeviceState) (ring : ℕ) → SameWords d (step_outcome d ring).1
step_words d ring g =
    elim (current_of d ring) as (λ o. word_at (at_record {A = Answer × DeviceState} d (λ number r. option_map_or (stepped_by d number) (slice_get r.job.packets r.ran) (answer.Ok, d)) (answer.Ok, d) o).1.journal g ≡ word_at d.journal g) [
      | None ↦ refl
      | Some f ↦ elim (slice_get d.journal f) as (λ o. word_at (option_map_or {U = Answer × DeviceState} (λ r. option_map_or (stepped_by d f) (slice_get r.job.packets r.ran) (answer.Ok, d)) o (answer.Ok, d)).1.journal g ≡ word_at d.journal g) [
        | None ↦ refl
        | Some r ↦ elim (slice_get r.job.packets r.ran) as (λ o. word_at (option_map_or {U = Answer × DeviceState} (stepped_by d f) o (answer.Ok, d)).1.journal g ≡ word_at d.journal g) [
          | None ↦ refl
          | Some p ↦ elim (is_at d.journal f (λ r. must_stall p r.karma.resets)) as (λ b.
              word_at (cond {A = Answer × DeviceState} b (answer.Stalled f, d) (answer.Ran f (option_map_or (λ r. r.ran) (slice_get d.journal f) 0), ran_device d f p)).1.journal g ≡ word_at d.journal g) [
                | true ↦ refl
                | false ↦ word_changed d.journal f (λ r. record r { ran = r.ran + 1 }) (λ x at. refl) g
              ]
        ]
      ]
    ]

pub timeout_words : (d : DeviceState) (ring now : ℕ) → SameWords d (timeout_outcome d ring now).1
timeout_words d ring now g =
    elim (head_of d ring) as (λ o. word_at (at_record {A = Answer × DeviceState} d (timeout_at d ring now) (answer.Empty, d) o).1.journal g ≡ word_at d.journal g) [
      | None ↦ refl
      | Some f ↦ elim (slice_get d.journal f) as (λ o. word_at (option_map_or {U = Answer × DeviceState} (timeout_at d ring now f) o (answer.Empty, d)).1.journal g ≡ word_at d.journal g) [
        | None ↦ refl
        | Some r ↦ elim (nat_lt (age_of d ring now) (limit_of (λ l. l.timeout) d ring)) as (λ b.
            word_at (cond {A = Answer × DeviceState} b (answer.NotYet (limit_of (λ l. l.timeout) d ring - age_of d ring now), d)
            (cond {A = Answer × DeviceState} (is_complete r) (answer.Complete, d) (hang_outcome d ring now f r))).1.journal g ≡ word_at d.journal g) [
              | true ↦ refl
              | false ↦ elim (is_complete r) as (λ b. word_at (cond {A = Answer × DeviceState} b (answer.Complete, d) (hang_outcome d ring now f r)).1.journal g ≡ word_at d.journal g) [
                | true ↦ refl
                | false ↦ elim (is_too_much d ring r) as (λ b. word_at (cond {A = Answer × DeviceState} b
                    (answer.Guilty r.job.entity, condemned_device (hung_device d ring now f) ring r.job.entity)
                    (answer.Resumed, hung_device d ring now f)).1.journal g ≡ word_at d.journal g) [
                      | true ↦ word_map (condemned ring r.job.entity) (λ x. refl) (hung_device d ring now f).journal g ∙ word_changed d.journal f (hung d) (λ x at. refl) g
                      | false ↦ word_changed d.journal f (hung d) (λ x at. refl) g
                    ]
              ]
            ]
      ]
    ]

-- a job ended with this outcome, and the other fences show what they showed
pub record EndsAt (d e : DeviceState) (fence shown : ℕ) : Type 0 where
  pub there : fence < length d.journal
  pub word : word_at e.journal fence ≡ shown
  pub words : (g : ℕ) → g ≢ fence → word_at e.journal g ≡ word_at d.journal g

ended_at_is : (d e : DeviceState) (f : ℕ) (r : JobRecord) (o : Outcome) → slice_get d.journal f ≡ Some r → e.journal ≡ ended_at d.journal f o → EndsAt d e f (word_of (Ended o))
ended_at_is d e f r o at is = record {
  there = slice_get_within d.journal f r at;
  word = ap (λ xs. word_at xs f) is ∙ word_ended d.journal f r o at;
  words = λ g ne. ap (λ xs. word_at xs g) is ∙ word_beside d.journal f r o at g ne;
}

pub finish_words : (d new : DeviceState) (ring now : ℕ) (x : Finished) → finish_outcome d ring now ≡ (finished x, new) → EndsAt d new x.fence (word_of (Ended x.outcome))
finish_words d new ring now x is = by_head (head_of d ring) is
  where
    by_record : (f : ℕ) (o : Option JobRecord) → slice_get d.journal f ≡ o
        → option_map_or {U = Answer × DeviceState} (λ r. (answer.Finished f (final_outcome r), finished_device d ring now f (final_outcome r))) o (answer.Ok, d) ≡ (answer.Finished x.fence x.outcome, new)
        → EndsAt d new x.fence (word_of (Ended x.outcome))
    by_record f None at is = let never : answer.Ok ≡ answer.Finished x.fence x.outcome = ap (λ (z : Answer × DeviceState). z.0) is in absurd (cc (never))
    by_record f (Some r) at is =
        let told : answer.Finished f (final_outcome r) ≡ answer.Finished x.fence x.outcome = ap (λ (z : Answer × DeviceState). z.0) is in
        let fence : f ≡ x.fence = cc (told) in
        let how : final_outcome r ≡ x.outcome = cc (told) in
        subst (λ n. EndsAt d new n (word_of (Ended x.outcome))) fence (subst (λ o. EndsAt d new f (word_of (Ended o))) how
        (ended_at_is d new f r (final_outcome r) at (ap (λ (z : Answer × DeviceState). z.1.journal) (sym is))))

    by_head : (o : Option ℕ)
        → at_record {A = Answer × DeviceState} d (λ number r. (answer.Finished number (final_outcome r), finished_device d ring now number (final_outcome r))) (answer.Ok, d) o ≡ (answer.Finished x.fence x.outcome, new)
        → EndsAt d new x.fence (word_of (Ended x.outcome))
    by_head None is = let never : answer.Ok ≡ answer.Finished x.fence x.outcome = ap (λ (z : Answer × DeviceState). z.0) is in absurd (cc (never))
    by_head (Some f) is = by_record f (slice_get d.journal f) refl is

pub reap_words : (d new : DeviceState) (e f : ℕ) → reap_refusal d e ≡ None → reap_outcome d e ≡ (answer.Reaped f, new) → EndsAt d new f 4
reap_words d new e f may is =
    let rest = (none_first (when (not (is_stopped d e) || is_none (first (queue_of e d.journal))) Nothing)
    (option_map_or (λ n. when (must_still_wait d.journal n.0 n.1) Waits) (first (queue_of e d.journal)) None ∷ []) may).1 in
    let waits = (none_first (option_map_or (λ n. when (must_still_wait d.journal n.0 n.1) Waits) (first (queue_of e d.journal)) None) [] rest).0 in
    by_head (first (queue_of e d.journal)) refl waits is
  where
    by_head : (o : Option (ℕ × JobRecord)) → first (queue_of e d.journal) ≡ o
        → option_map_or (λ (n : ℕ × JobRecord). when (must_still_wait d.journal n.0 n.1) Waits) o None ≡ None
        → option_map_or {U = Answer × DeviceState} (λ (n : ℕ × JobRecord). (answer.Reaped n.0, record d { journal = ended_at d.journal n.0 outcome.Stopped })) o (answer.Ok, d) ≡ (answer.Reaped f, new)
        → EndsAt d new f 4
    by_head None at may is = let never : answer.Ok ≡ answer.Reaped f = ap (λ (z : Answer × DeviceState). z.0) is in absurd (cc (never))
    by_head (Some n) at may is =
        let reap = reapable d e n at (not-false _ (false_where (must_still_wait d.journal n.0 n.1) Waits may)) in
        let told : answer.Reaped n.0 ≡ answer.Reaped f = ap (λ (z : Answer × DeviceState). z.0) is in
        let fence : n.0 ≡ f = cc (told) in
        subst (λ k. EndsAt d new k 4) fence (ended_at_is d new n.0 n.1 outcome.Stopped reap.at (ap (λ (z : Answer × DeviceState). z.1.journal) (sym is)))

-- ---- what a device keeps

kept_fits : (d e : DeviceState) → IsKept d e → (b : ℕ) (x : Reservation) → Fits b d.journal x → Fits b e.journal x
kept_fits d e k b x f = fits_kept b d.journal e.journal x k.count k.grows.journal f

below : {f n m : ℕ} → f < n → n ≤ m → f < m
below l e = omega (arith, l, e)

-- what fitted fits, and each fence shows what it showed
pub keeps_of : (d e : DeviceState) → IsKept d e → SameWords d e → Keeps d e
keeps_of d e kept words = record { fits = kept_fits d e kept; words = words }

pub keeps_itself : (d : DeviceState) → Keeps d d
keeps_itself d = record { fits = λ b x f. f; words = λ g. refl }

-- and the fence of the job that ended shows its outcome
pub ended_keeps : (d e : DeviceState) (fence shown : ℕ) → length d.journal ≤ d.spec.max_jobs → IsKept d e → EndsAt d e fence shown → KeepsBut fence shown d e
ended_keeps d e fence shown count kept ends = record {
  place = below ends.there count;
  fits = kept_fits d e kept;
  word = ends.word;
  words = ends.words;
}

pub arm_keeps : (d : DeviceState) (job : Draft) → arm_refusal d job ≡ None → KeepsArmed job (length d.journal) d (armed_device d job)
arm_keeps d job may = record {
  place = (may_arm d job may).place;
  fits = λ b x none f. unused_fits d job b x (not_declared job b none) f;
  word = ap (λ o. option_map_or (λ (z : JobRecord). word_of z.phase) o 0) (get_at_push d.journal (new_record d job));
  words = λ g ne. word_push d.journal (new_record d job) g ne;
}
