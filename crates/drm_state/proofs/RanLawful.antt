-- A packet that a ring runs leads from a steady device to a steady one.
use Rattle.std.proofs.Common.{◌≡◌, ℕ, ◌+◌, ◌<◌, ◌≤◌, Bool, true, false, not, ◌&&◌, ◌==◌, List, set, length, Some, refl, sym, ap, subst, ◌∙◌, inl, inr, arith, slice_get}
use Rattle.std.specs.Option.{option_map_or}
use Rattle.std.specs.Prelude.{min}
use Rattle.std.proofs.lemmas.Bool.{both_ways, and_parts, or_cases, or_left, or_right, or_from, not-true, not-false, cases_Bool, eqb-true}
use Rattle.std.proofs.lemmas.Option.{slice_get_within}
use Rattle.drm_lists.proofs.Searches.{find_first}
use Rattle.drm_lists.proofs.Places.{contains_at, place_of}
use Rattle.drm_lists.proofs.Changed.{get_set_cases}
use Rattle.drm_packet.specs.declared.Packet.{Packet}
use Rattle.drm_fence.specs.declared.phase.Phase.{Phase}
use Rattle.drm_fence.specs.declared.phase.Phase.TheVariants.{Queued, Scheduled, Ended}
use Rattle.drm_state.specs.declared.journal.JobRecord.{JobRecord}
use Rattle.drm_state.specs.State.{DeviceState}
use Rattle.drm_state.specs.Journal.{is_at, is_complete, is_over, changed_at}
use Rattle.drm_fence.specs.Phases.{is_queued, has_ended}
use Rattle.drm_state.specs.Order.{comes_after, is_met}
use Rattle.drm_state.specs.Ring.{pending_of, current_of, credits_of, credit_limit_of}
use Rattle.drm_state.specs.Outcomes.{ran_device}
use Rattle.drm_state.specs.Lawful.{EachTwo, HasRightOutcome, IsSound, IsPendingList, ComesInOrder, KeepsEntityOrder, IsLawfulDevice}
use Rattle.drm_state.specs.Steady.{BeginsMet, StandsInOrder, IsSteady, StaysHome, IsRingOf}
use Rattle.drm_state.proofs.Records.{at_test, changed_is}
use Rattle.drm_state.proofs.Pairs.{each_two_set, sum_by_agree}
use Rattle.drm_state.proofs.Pending.{pending_kept, credits_kept}
use Rattle.drm_state.proofs.RanKeeps.{ran_keeps}

-- whether a pending job is not complete
abbrev pub is_going : List JobRecord → ℕ → Bool
is_going journal f = is_at journal f (λ r. not (is_complete r))

-- the ring runs this record, which stands at this place, and all before it are complete
pub record IsCurrent (d : DeviceState) (ring f : ℕ) (r : JobRecord) : Type 0 where
  pub at : slice_get d.journal f ≡ Some r
  pub phase : r.phase ≡ Scheduled
  pub on_ring : r.ring ≡ ring
  pub going : is_complete r ≡ false
  pub place : ℕ
  pub stands : slice_get (pending_of d ring) place ≡ Some f
  pub before : (a g : ℕ) → a < place → slice_get (pending_of d ring) a ≡ Some g → is_going d.journal g ≡ false

pub current_is : (d : DeviceState) (ring f : ℕ) → IsLawfulDevice d → ring < length d.spec.rings → current_of d ring ≡ Some f
    → (r : JobRecord) × IsCurrent d ring f r
current_is d ring f law here some =
    let found = find_first (is_going d.journal) (pending_of d ring) f some in
    let r = ((law.rings ring here).pending f).0 (contains_at (pending_of d ring) found.0 f found.1) in (
      r.0,
      record {
        at = r.1;
        phase = r.2;
        on_ring = r.3;
        going = not-true (is_complete r.0) (sym (at_test d.journal f r.0 (λ r. not (is_complete r)) r.1) ∙ found.2);
        place = found.0;
        stands = found.1;
        before = found.3;
      },
    )

-- a phase that is neither queued nor ended
pub scheduled_from : (phase : Phase) → is_queued phase ≡ false → has_ended phase ≡ false → phase ≡ Scheduled
scheduled_from Queued q e = let never : true ≡ false = q in absurd (cc (never))
scheduled_from Scheduled q e = refl
scheduled_from (Ended outcome) q e = let never : true ≡ false = e in absurd (cc (never))

-- what the job that runs comes after is over
pub earlier_is_over : (d : DeviceState) (ring f i : ℕ) (r x : JobRecord) → IsSteady d → ring < length d.spec.rings → IsCurrent d ring f r
    → i < f → slice_get d.journal i ≡ Some x → comes_after r.job i x.job ≡ true → is_over x ≡ true
earlier_is_over d ring f i r x steady here now lt at_i comes =
    let met : is_met r.ring x ≡ true = steady.met i f x r lt at_i now.at comes (ap is_queued now.phase) in
    elim (cases_Bool (has_ended x.phase)) [
      | inl ended ↦ or_right (is_complete x) (has_ended x.phase) ended
      | inr going_on ↦ elim (or_cases (has_ended x.phase) (not (is_queued x.phase) && (x.ring == r.ring)) met) [
        | inl ended ↦ or_right (is_complete x) (has_ended x.phase) ended
        | inr begun ↦
            let both = and_parts (not (is_queued x.phase)) (x.ring == r.ring) begun in
            let scheduled = scheduled_from x.phase (not-true (is_queued x.phase) both.0) going_on in
            let pends = ((steady.lawful.rings ring here).pending i).1 (x, at_i, scheduled, eqb-true x.ring r.ring both.1 ∙ now.on_ring) in
            let place = place_of (pending_of d ring) i pends in
            let first : place.0 < now.place = steady.order ring here i f x r lt at_i now.at (inl comes) place.0 now.place place.1 now.stands in
            let done = now.before place.0 i first place.1 in
            or_left (is_complete x) (has_ended x.phase)
            (not-false (is_complete x) (sym (at_test d.journal i x (λ r. not (is_complete r)) at_i) ∙ done))
      ]
    ]

-- the record with one packet more
abbrev pub one_more_ran : JobRecord → JobRecord
one_more_ran r = record r { ran = r.ran + 1 }

pub ran_lawful : (d : DeviceState) (ring f : ℕ) (r : JobRecord) (p : Packet) → IsSteady d → ring < length d.spec.rings → IsCurrent d ring f r
    → slice_get r.job.packets r.ran ≡ Some p → IsLawfulDevice (ran_device d f p)
ran_lawful d ring f r p steady here now next =
    let law = steady.lawful in
    let same : changed_at d.journal f one_more_ran ≡ set d.journal f (one_more_ran r) = changed_is d.journal f r one_more_ran now.at in
    let not_over : is_over r ≡ false = or_from (is_complete r) (has_ended r.phase) now.going (ap has_ended now.phase) in
    record {
      ring_count = law.ring_count;
      entity_count = law.entity_count;
      memory = ran_keeps d f r p law now.at not_over next;
      records = λ i x at_i.
          elim (get_set_cases d.journal f i r (one_more_ran r) x now.at (subst (λ js. slice_get js i ≡ Some x) same at_i)) [
            | inl it ↦ subst (IsSound d.spec) (sym it.1) (record {
              job = (law.records f r now.at).job;
              ran = omega (arith, slice_get_within r.job.packets r.ran p next);
              outcome = subst (HasRightOutcome (one_more_ran r)) (sym now.phase) tt;
              queued = λ q. absurd (both_ways (is_queued r.phase) (ap is_queued now.phase) q);
            })
            | inr other ↦ law.records i x other.1
          ];
      rings = λ k k_here.
          let old = law.rings k k_here in
          record {
            pending = subst (λ js. IsPendingList js k (pending_of d k)) (sym same)
                (pending_kept d.journal f r (one_more_ran r) k (pending_of d k) now.at refl refl old.pending);
            once = old.once;
            credits = subst (λ n. n ≤ credit_limit_of d k)
                (sym (sum_by_agree (credits_of (ran_device d f p) k) (credits_of d k) (pending_of d k) 0
                (λ g. subst (λ js. option_map_or (λ (x : JobRecord). min x.job.credits (credit_limit_of d k)) (slice_get js g) 0 ≡ credits_of d k g) (sym same)
                (credits_kept d.journal f r (one_more_ran r) (credit_limit_of d k) g now.at refl))))
                old.credits;
          };
      follows = subst (λ js. EachTwo js ComesInOrder) (sym same) (each_two_set d.journal f r (one_more_ran r) ComesInOrder now.at law.follows
          (λ j y lt at_j old. record {
            ended = λ comes ended. old.ended comes ended;
            ran = λ comes some_ran. absurd (both_ways (is_over r) not_over (old.ran comes some_ran));
          })
          (λ i x lt at_i old. record {
            ended = λ comes ended. old.ended comes ended;
            ran = λ comes some_ran. earlier_is_over d ring f i r x steady here now lt at_i comes;
          }));
      entities = subst (λ js. EachTwo js KeepsEntityOrder) (sym same) (each_two_set d.journal f r (one_more_ran r) KeepsEntityOrder now.at law.entities
          (λ j y lt at_j old. record { begun = old.begun; ended = old.ended })
          (λ i x lt at_i old. record { begun = old.begun; ended = old.ended }));
    }

pub ran_steady : (d : DeviceState) (ring f : ℕ) (r : JobRecord) (p : Packet) → IsSteady d → ring < length d.spec.rings → IsCurrent d ring f r
    → slice_get r.job.packets r.ran ≡ Some p → IsSteady (ran_device d f p)
ran_steady d ring f r p steady here now next =
    let same : changed_at d.journal f one_more_ran ≡ set d.journal f (one_more_ran r) = changed_is d.journal f r one_more_ran now.at in
    record {
      lawful = ran_lawful d ring f r p steady here now next;
      met = subst (λ js. EachTwo js BeginsMet) (sym same) (each_two_set d.journal f r (one_more_ran r) BeginsMet now.at steady.met
          (λ j y lt at_j old. old)
          (λ i x lt at_i old. old));
      home = subst (λ js. EachTwo js StaysHome) (sym same) (each_two_set d.journal f r (one_more_ran r) StaysHome now.at steady.home
          (λ j y lt at_j old. old) (λ i x lt at_i old. old));
      listed = λ i x at_i.
          elim (get_set_cases d.journal f i r (one_more_ran r) x now.at (subst (λ js. slice_get js i ≡ Some x) same at_i)) [
            | inl it ↦ subst (λ (z : JobRecord). IsRingOf d.spec z.job.entity z.ring) (sym it.1) (steady.listed f r now.at)
            | inr other ↦ steady.listed i x other.1
          ];
      order = λ k k_here. subst (λ js. EachTwo js (StandsInOrder (pending_of d k))) (sym same)
          (each_two_set d.journal f r (one_more_ran r) (StandsInOrder (pending_of d k)) now.at (steady.order k k_here)
          (λ j y lt at_j old. old)
          (λ i x lt at_i old. old));
    }
