-- What the reason tells stands in the device.
use Rattle.std.proofs.Common.{◌≡◌, ℕ, zero, suc, ◌<◌, Bool, true, false, cond, ◌==◌, List, [], ◌∷◌, Some, None, Option, refl, sym, ap, subst, ◌∙◌, inl, inr, arith, length, slice_get}
use Rattle.std.specs.Prelude.{nat_lt, option_map, unwrap_or, not}
use Rattle.std.specs.Option.{option_map_or}
use Rattle.std.proofs.lemmas.Bool.{both_ways, cases_eq, cases_lt, eqb-false, eqb-true, ltb-false, ltb-true}
use Rattle.drm_types.specs.Firsts.{first}
use Rattle.drm_types.specs.Limits.{spec_fault}
use Rattle.drm_fence.specs.declared.phase.Phase.{Phase}
use Rattle.drm_fence.specs.declared.phase.Phase.TheVariants.{Queued, Scheduled, Ended}
use Rattle.drm_fence.specs.Phases.{is_queued}
use Rattle.drm_state.specs.declared.journal.JobRecord.{JobRecord}
use Rattle.drm_state.specs.State.{DeviceState}
use Rattle.drm_state.specs.Journal.{is_complete}
use Rattle.drm_state.specs.Choice.{choice, queue_of}
use Rattle.drm_state.specs.Chosen.{ChoiceIsLeast, IsFirstQueued, IsLeast, MayBegin}
use Rattle.drm_state.specs.Ring.{credits_of, current_of, free_credits, head_of, is_stopped, pending_of}
use Rattle.drm_state.specs.Steady.{IsSteady}
use Rattle.drm_state.proofs.Homes.{none_passes}
use Rattle.drm_lists.proofs.Searches.{find_first}
use Rattle.drm_lists.proofs.Places.{place_of}
use Rattle.drm_state.proofs.RanLawful.{is_going}
use Rattle.drm_state.proofs.RingChange.{first_is}
use Rattle.drm_reason.specs.declared.reason.Reason.TheVariants as reason
use Rattle.drm_reason.specs.Reasons.{fit_reason, front_reason, head_reason, least_going, least_unmet, line_reason, packet_reason, phase_reason, queue_head, queued_reason, pending_reason, ready_reason, reason_of, stalls, turn_reason, unmet_reason}
use Rattle.drm_reason.specs.Standing.{HasReason, IsInLine}
use Rattle.drm_reason.proofs.Finds.{first_queued, one_first, queue_has}
use Rattle.drm_reason.proofs.There.{job_there}
use Rattle.drm_reason.proofs.Unmet.{going_stands, ready_where_none, unmet_found}

-- a list with an element has a first
no_first : (xs : List ℕ) (k x : ℕ) → slice_get xs k ≡ Some x → first xs ≡ None → ⊥
no_first [] k x at none = let never : None ≡ Some x = at in cc (never)
no_first (y ∷ ys) k x at none = let never : Some y ≡ None = none in cc (never)

-- an element that is not the first stands later
behind_first : (xs : List ℕ) (k x y : ℕ) → slice_get xs k ≡ Some x → first xs ≡ Some y → (y ≡ x → ⊥) → 0 < k
behind_first [] k x y at is apart = absurd (let never : None ≡ Some x = at in cc (never))
behind_first (z ∷ zs) zero x y at is apart = absurd (apart (let one : Some y ≡ Some x = sym is ∙ at in cc (one)))
behind_first (z ∷ zs) (suc k) x y at is apart = omega arith

module _ (choices : ChoiceIsLeast) (d : DeviceState) (steady : IsSteady d) (limits : spec_fault d.spec ≡ None) (n : ℕ) where
  -- ---- pending

  module _ (job : JobRecord) (at : slice_get d.journal n ≡ Some job) (scheduled : job.phase ≡ Scheduled) where
    here : job.ring < length d.spec.rings
    here = (job_there d n job steady limits at).ring

    -- where it stands among the pending jobs of its ring
    place : (k : ℕ) × (slice_get (pending_of d job.ring) k ≡ Some n)
    place = place_of (pending_of d job.ring) n (((steady.lawful.rings job.ring here).pending n).1 (job, at, scheduled, refl))

    complete_stands : is_complete job ≡ true → HasReason d n (front_reason job.ring n (head_of d job.ring) (reason.Complete job.ring))
    complete_stands complete = by_head (head_of d job.ring) refl
      where
        by_front : (h : ℕ) (b : Bool) → head_of d job.ring ≡ Some h → (h == n) ≡ b
            → HasReason d n (cond b (reason.Complete job.ring) (reason.Pending job.ring h))
        by_front h true leads same =
            record { head = leads ∙ ap (λ k. Some k) (eqb-true h n same); job = job; at = at; complete = complete }
        by_front h false leads apart = record {
          job = job;
          at = at;
          scheduled = scheduled;
          on_ring = refl;
          leads = ap (λ b. cond b (head_of d job.ring) (current_of d job.ring)) complete ∙ leads;
          place = 0;
          later = place.0;
          stands = let split = first_is (pending_of d job.ring) h leads in ap (λ xs. slice_get xs 0) split.1;
          waits = place.1;
          order = behind_first (pending_of d job.ring) place.0 n h place.1 leads (eqb-false h n apart);
        }

        by_head : (o : Option ℕ) → head_of d job.ring ≡ o → HasReason d n (front_reason job.ring n o (reason.Complete job.ring))
        by_head None none = absurd (no_first (pending_of d job.ring) place.0 n place.1 none)
        by_head (Some h) some = by_front h (h == n) some refl

    going_on_stands : is_complete job ≡ false → HasReason d n (front_reason job.ring n (current_of d job.ring) (packet_reason job))
    going_on_stands left = by_current (current_of d job.ring) refl
      where
        goes : is_going d.journal n ≡ true
        goes = ap (λ o. option_map_or (λ (q : JobRecord). not (is_complete q)) o false) at ∙ ap not left

        by_stalls : (b : Bool) → stalls job ≡ b → current_of d job.ring ≡ Some n → HasReason d n (cond b (reason.Stalls job.ring job.ran) (reason.Runs job.ring job.ran))
        by_stalls true waits leads = (job, record { current = leads; at = at; ran = refl }, waits)
        by_stalls false free leads = (job, record { current = leads; at = at; ran = refl }, free)

        by_front : (c : ℕ) (b : Bool) → current_of d job.ring ≡ Some c → (c == n) ≡ b
            → HasReason d n (cond b (packet_reason job) (reason.Pending job.ring c))
        by_front c true leads same = by_stalls (stalls job) refl (leads ∙ ap (λ k. Some k) (eqb-true c n same))
        by_front c false leads apart =
            let found = find_first (is_going d.journal) (pending_of d job.ring) c leads in
            record {
              job = job;
              at = at;
              scheduled = scheduled;
              on_ring = refl;
              leads = ap (λ b. cond b (head_of d job.ring) (current_of d job.ring)) left ∙ leads;
              place = found.0;
              later = place.0;
              stands = found.1;
              waits = place.1;
              order = behind found.0 found.1 found.3;
            }
          where
            -- it stands behind the first one that goes on, which is another one
            behind : (k : ℕ) → slice_get (pending_of d job.ring) k ≡ Some c
                → ((a f : ℕ) → a < k → slice_get (pending_of d job.ring) a ≡ Some f → is_going d.journal f ≡ false) → k < place.0
            behind k stands before =
                elim (cases_lt k place.0) [
                  | inl less ↦ less
                  | inr not_less ↦ elim (cases_eq k place.0) [
                    | inl same ↦
                        let one : Some c ≡ Some n = sym stands ∙ (ap (λ i. slice_get (pending_of d job.ring) i) same ∙ place.1) in
                        absurd (eqb-false c n apart (cc (one)))
                    | inr differ ↦ absurd (both_ways (is_going d.journal n) (before place.0 n (omega (arith, not_less, differ)) place.1) goes)
                  ]
                ]

        by_current : (o : Option ℕ) → current_of d job.ring ≡ o → HasReason d n (front_reason job.ring n o (packet_reason job))
        by_current None none =
            absurd (both_ways (is_going d.journal n) (none_passes (is_going d.journal) (pending_of d job.ring) none place.0 n place.1) goes)
        by_current (Some c) some = by_front c (c == n) some refl

    pending_stands : HasReason d n (pending_reason d n job)
    pending_stands = by_complete (is_complete job) refl
      where
        by_complete : (b : Bool) → is_complete job ≡ b
            → HasReason d n (cond b (front_reason job.ring n (head_of d job.ring) (reason.Complete job.ring)) (front_reason job.ring n (current_of d job.ring) (packet_reason job)))
        by_complete true complete = complete_stands complete
        by_complete false left = going_on_stands left

  -- ---- queued

  module _ (job : JobRecord) (line : IsInLine d n job) where
    entity_here : job.job.entity < length d.spec.entities
    entity_here = (job_there d n job steady limits line.at).entity

    module _ (own : IsFirstQueued d.journal job.job.entity n job) where
      -- it may begin, where all is met
      begins : least_unmet d.journal n job ≡ None → MayBegin d job.ring job.job.entity n
      begins none = record {
        there = entity_here;
        active = line.active;
        head = job;
        first = own;
        on_ring = refl;
        ready = ready_where_none d.journal n job none;
      }

      fit_stands : IsLeast d job.ring n → HasReason d n (fit_reason d job.ring n)
      fit_stands least = by_fit (nat_lt (free_credits d job.ring) (credits_of d job.ring n)) refl
        where
          by_fit : (b : Bool) → nat_lt (free_credits d job.ring) (credits_of d job.ring n) ≡ b
              → HasReason d n (cond b (reason.NoCredits job.ring (credits_of d job.ring n) (free_credits d job.ring)) (reason.Next job.ring))
          by_fit true short =
              record { next = least; counts = refl; left = refl; short = ltb-true (free_credits d job.ring) (credits_of d job.ring n) short }
          by_fit false fits = record { next = least; fits = ltb-false (free_credits d job.ring) (credits_of d job.ring n) fits }

      ready_stands : least_unmet d.journal n job ≡ None → HasReason d n (ready_reason d job.ring n)
      ready_stands none = by_choice (choice d job.ring) refl
        where
          by_turn : (g : ℕ) (b : Bool) → choice d job.ring ≡ Some g → (g == n) ≡ b
              → HasReason d n (cond b (fit_reason d job.ring n) (reason.BehindRingHead job.ring g))
          by_turn g true is same =
              fit_stands (((choices d job.ring steady).some n).0 (is ∙ ap (λ k. Some k) (eqb-true g n same)))
          by_turn g false is apart =
              let least = ((choices d job.ring steady).some g).0 is in
              record {
                entity = job.job.entity;
                may = begins none;
                ahead = least;
                before = least.before job.job.entity n (begins none) (λ same.
                    let theirs : IsFirstQueued d.journal job.job.entity g least.may.head =
                    subst (λ e. IsFirstQueued d.journal e g least.may.head) (sym same) least.may.first in
                    eqb-false g n apart (one_first d.journal job.job.entity g n least.may.head job theirs own));
              }

          by_choice : (o : Option ℕ) → choice d job.ring ≡ o → HasReason d n (turn_reason d job.ring n (unwrap_or o n))
          by_choice None is = absurd ((choices d job.ring steady).none.0 is job.job.entity n (begins none))
          by_choice (Some g) is = by_turn g (g == n) is refl

      head_stands : HasReason d n (head_reason d n job)
      head_stands = by_unmet (least_unmet d.journal n job) refl
        where
          by_unmet : (o : Option (ℕ × JobRecord)) → least_unmet d.journal n job ≡ o
              → HasReason d n (option_map_or (unmet_reason job) o (ready_reason d job.ring n))
          by_unmet None none = ready_stands none
          by_unmet (Some m) some =
              let found = unmet_found d.journal n job m some in
              record {
                job = job;
                line = line;
                first = own;
                earlier = m.1;
                unmet = found.unmet;
                least = found.least;
                held = refl;
                place = refl;
                phase = refl;
              }

    -- the head of its queue is the job itself or an earlier one
    line_stands : HasReason d n (line_reason d n job (unwrap_or (queue_head d job.job.entity) n))
    line_stands = by_first (first (queue_of job.job.entity d.journal)) refl
      where
        by_head : (m : ℕ × JobRecord) (b : Bool) → IsFirstQueued d.journal job.job.entity m.0 m.1 → (m.0 == n) ≡ b
            → HasReason d n (cond b (head_reason d n job) (reason.BehindQueueHead m.0))
        by_head m true is same =
            let number : m.0 ≡ n = eqb-true m.0 n same in
            let there : slice_get d.journal n ≡ Some m.1 = subst (λ k. slice_get d.journal k ≡ Some m.1) number is.at in
            let one : m.1 ≡ job = cc (there, line.at) in
            head_stands (subst (IsFirstQueued d.journal job.job.entity n) one (subst (λ k. IsFirstQueued d.journal job.job.entity k m.1) number is))
        by_head m false is apart = record {
          job = job;
          line = line;
          ahead = m.1;
          first = is;
          earlier = elim (cases_lt m.0 n) [
            | inl less ↦ less
            | inr not_less ↦ elim (cases_eq m.0 n) [
              | inl same ↦ absurd (eqb-false m.0 n apart same)
              | inr differ ↦ absurd (both_ways (is_queued job.phase) (is.first n job (omega (arith, not_less, differ)) line.at refl) line.queued)
            ]
          ];
        }

        by_first : (o : Option (ℕ × JobRecord)) → first (queue_of job.job.entity d.journal) ≡ o
            → HasReason d n (line_reason d n job (unwrap_or (option_map (λ (m : ℕ × JobRecord). m.0) o) n))
        by_first None none = absurd (queue_has d.journal n job line.at line.queued none)
        by_first (Some m) some = by_head m (m.0 == n) (first_queued d.journal job.job.entity m some) refl

  queued_stands : (job : JobRecord) → slice_get d.journal n ≡ Some job → is_queued job.phase ≡ true → HasReason d n (queued_reason d n job)
  queued_stands job at queued = by_stopped (is_stopped d job.job.entity) refl
    where
      by_stopped : (b : Bool) → is_stopped d job.job.entity ≡ b
          → HasReason d n (cond b (reason.Stopped (least_going d.journal n job)) (line_reason d n job (unwrap_or (queue_head d job.job.entity) n)))
      by_stopped true stopped = record { job = job; at = at; queued = queued; stopped = stopped; least = going_stands d.journal n job }
      by_stopped false active = line_stands job (record { at = at; queued = queued; active = active })

  -- ---- any job

  pub reason_stands : HasReason d n (reason_of d n)
  unfolding reason_of
  reason_stands = by_record (slice_get d.journal n) refl
    where
      by_phase : (job : JobRecord) (p : Phase) → slice_get d.journal n ≡ Some job → job.phase ≡ p → HasReason d n (phase_reason d n job p)
      by_phase job Queued at is = queued_stands job at (ap is_queued is)
      by_phase job Scheduled at is = pending_stands job at is
      by_phase job (Ended outcome) at is = (job, at, is)

      by_record : (o : Option JobRecord) → slice_get d.journal n ≡ o
          → HasReason d n (option_map_or (λ (job : JobRecord). phase_reason d n job job.phase) o reason.NotArmed)
      by_record None none = none
      by_record (Some job) at = by_phase job job.phase at refl
