-- Which fence a job waits for: of a reason, and from where on it is looked for.
use Rattle.std.proofs.Common.{◌≡◌, ℕ, Bool, true, false, cond, ◌==◌, Some, None, Option, refl, sym, subst, ◌∙◌, slice_get}
use Rattle.std.specs.Prelude.{nat_lt, option_map, unwrap_or}
use Rattle.std.specs.Option.{option_map_or}
use Rattle.drm_state.specs.declared.journal.JobRecord.{JobRecord}
use Rattle.drm_state.specs.State.{DeviceState}
use Rattle.drm_state.specs.Journal.{is_complete}
use Rattle.drm_state.specs.Order.{is_ready}
use Rattle.drm_state.specs.Choice.{choice}
use Rattle.drm_state.specs.Chosen.{ChoiceIsLeast}
use Rattle.drm_state.specs.Ring.{credits_of, current_of, free_credits, head_of}
use Rattle.drm_state.specs.Steady.{IsSteady}
use Rattle.drm_reason.specs.declared.reason.Reason.{Reason}
use Rattle.drm_reason.specs.declared.reason.Reason.TheVariants as reason
use Rattle.drm_reason.specs.Awaited.{awaited_by}
use Rattle.drm_reason.specs.Reasons.{front_reason, head_reason, least_unmet, packet_reason, pending_reason, ready_reason, stalls, unmet_reason}
use Rattle.drm_reason.specs.Standing.{is_unmet}
use Rattle.drm_reason.specs.Watching.{NoneBelow}
use Rattle.drm_reason.proofs.Finds.{none_before}
use Rattle.drm_reason.proofs.Unmet.{none_where_ready, unmet_by_both}

-- ---- of a reason

-- a job that is ready waits for no fence
ready_awaits : (d : DeviceState) (ring n : ℕ) → None ≡ awaited_by (ready_reason d ring n)
ready_awaits d ring n = by_turn (unwrap_or (choice d ring) n)
  where
    by_credits : (b : Bool) → None ≡ awaited_by (cond b (reason.NoCredits ring (credits_of d ring n) (free_credits d ring)) (reason.Next ring))
    by_credits true = refl
    by_credits false = refl

    by_next : (next : ℕ) (b : Bool)
        → None ≡ awaited_by (cond b (cond (nat_lt (free_credits d ring) (credits_of d ring n)) (reason.NoCredits ring (credits_of d ring n) (free_credits d ring)) (reason.Next ring)) (reason.BehindRingHead ring next))
    by_next next true = by_credits (nat_lt (free_credits d ring) (credits_of d ring n))
    by_next next false = refl

    by_turn : (next : ℕ)
        → None ≡ awaited_by (cond (next == n) (cond (nat_lt (free_credits d ring) (credits_of d ring n)) (reason.NoCredits ring (credits_of d ring n) (free_credits d ring)) (reason.Next ring)) (reason.BehindRingHead ring next))
    by_turn next = by_next next (next == n)

-- the first job in the queue of its entity waits for the least that is not met
pub head_awaits : (d : DeviceState) (n : ℕ) (job : JobRecord)
    → option_map (λ (m : ℕ × JobRecord). m.0) (least_unmet d.journal n job) ≡ awaited_by (head_reason d n job)
head_awaits d n job = by_found (least_unmet d.journal n job)
  where
    by_found : (o : Option (ℕ × JobRecord)) → option_map (λ (m : ℕ × JobRecord). m.0) o ≡ awaited_by (option_map_or (unmet_reason job) o (ready_reason d job.ring n))
    by_found None = ready_awaits d job.ring n
    by_found (Some m) = refl

-- a pending job waits for none
pub pending_awaits : (d : DeviceState) (n : ℕ) (job : JobRecord) → None ≡ awaited_by (pending_reason d n job)
pending_awaits d n job = by_complete (is_complete job)
  where
    by_front : (front : Option ℕ) (b : Bool) (itself : Reason) → None ≡ awaited_by itself
        → None ≡ awaited_by (cond b itself (reason.Pending job.ring (unwrap_or front n)))
    by_front front true itself none = none
    by_front front false itself none = refl

    by_packet : (b : Bool) → None ≡ awaited_by (cond b (reason.Stalls job.ring job.ran) (reason.Runs job.ring job.ran))
    by_packet true = refl
    by_packet false = refl

    by_complete : (b : Bool)
        → None
        ≡ awaited_by
        (cond b (front_reason job.ring n (head_of d job.ring) (reason.Complete job.ring)) (front_reason job.ring n (current_of d job.ring) (packet_reason job)))
    by_complete true = by_front (head_of d job.ring) (unwrap_or (head_of d job.ring) n == n) (reason.Complete job.ring) refl
    by_complete false = by_front (current_of d job.ring) (unwrap_or (current_of d job.ring) n == n) (packet_reason job) (by_packet (stalls job))

-- ---- from where on it is looked for

-- no fence holds up the job that a ring takes next
pub none_below_chosen : (choices : ChoiceIsLeast) (d : DeviceState) (steady : IsSteady d) (ring n : ℕ) (job : JobRecord) → slice_get d.journal n ≡ Some job → choice d ring ≡ Some n
    → NoneBelow d.journal (is_unmet job) n
none_below_chosen choices d steady ring n job at chosen i x less there =
    let least = ((choices d ring steady).some n).0 chosen in
    let same : least.may.head ≡ job = cc (least.may.first.at, at) in
    let ready : is_ready d.journal n job ≡ true = subst (λ (q : JobRecord). is_ready d.journal n q ≡ true) same least.may.ready in
    none_before d.journal n (is_unmet job) i x (sym (unmet_by_both d.journal n job) ∙ none_where_ready d.journal n job ready) less there
