-- A finish leads from a steady device to a steady one.
use Rattle.std.proofs.Common.{◌≡◌, ◌≢◌, ℕ, zero, suc, ◌<◌, ◌≤◌, true, false, not, ◌&&◌, ◌==◌, List, [], ◌∷◌, drop, set, length, Some, refl, sym, ap, subst, ◌∙◌, inl, inr, arith, slice_get}
use Rattle.std.specs.Option.{option_map_or}
use Rattle.std.specs.Prelude.{Contains, sum_by, min, if◌then◌else◌}
use Rattle.std.proofs.lemmas.Bool.{both_ways, and_parts, or_cases, or_right, not-true, cases_Bool, eqb-true, leb-true, cases_eq}
use Rattle.std.proofs.lemmas.List.Sums.{sum_by-cons}
use Rattle.drm_lists.proofs.Places.{contains_at, place_of, to_map}
use Rattle.drm_lists.proofs.Changed.{get_set_other, get_set_cases, set_same}
use Rattle.drm_types.specs.declared.outcome.Outcome.{Outcome}
use Rattle.drm_types.specs.declared.outcome.Outcome.TheVariants as outcome
use Rattle.drm_serial.specs.Serial.{serial}
use Rattle.drm_fence.specs.declared.phase.Phase.TheVariants.{Scheduled, Ended}
use Rattle.drm_state.specs.declared.journal.JobRecord.{JobRecord}
use Rattle.drm_state.specs.State.{RingState, DeviceState}
use Rattle.drm_state.specs.Journal.{turns, is_complete, changed_at}
use Rattle.drm_fence.specs.Phases.{is_queued, has_ended}
use Rattle.drm_state.specs.Order.{comes_after, is_met}
use Rattle.drm_state.specs.Ring.{pending_of, head_of, credits_of, credit_limit_of}
use Rattle.drm_state.specs.Outcomes.{final_outcome, finished_device}
use Rattle.drm_state.specs.Lawful.{EachTwo, HasRightOutcome, IsSound, IsPendingList, IsOnce, ComesInOrder, KeepsEntityOrder, IsLawfulRing, IsLawfulDevice}
use Rattle.drm_state.specs.Steady.{MustFollow, BeginsMet, StandsInOrder, IsSteady, StaysHome, IsRingOf}
use Rattle.drm_state.proofs.Records.{turn_of, changed_is, turns_changed}
use Rattle.drm_state.proofs.Pairs.{each_two_set, sum_by_agree}
use Rattle.drm_state.proofs.Pending.{credits_kept}
use Rattle.drm_state.proofs.RingChange.{ring_there, ring_changed_count, pending_here, pending_there, ring_lawful_by, first_is}
use Rattle.drm_state.proofs.RanLawful.{scheduled_from}

-- the record of a job that ended
abbrev pub ended : Outcome → JobRecord → JobRecord
ended o r = record r { phase = Ended o }

-- the ring's head: its record, and what stands behind it
pub record IsHead (d : DeviceState) (ring f : ℕ) (r : JobRecord) : Type 0 where
  pub at : slice_get d.journal f ≡ Some r
  pub phase : r.phase ≡ Scheduled
  pub on_ring : r.ring ≡ ring
  pub rest : List ℕ
  pub stands : pending_of d ring ≡ f ∷ rest

pub head_is : (d : DeviceState) (ring f : ℕ) → IsLawfulDevice d → ring < length d.spec.rings → head_of d ring ≡ Some f
    → (r : JobRecord) × IsHead d ring f r
head_is d ring f law here some =
    let split = first_is (pending_of d ring) f some in
    let first_place : slice_get (pending_of d ring) 0 ≡ Some f = ap (λ xs. slice_get xs 0) split.1 in
    let r = ((law.rings ring here).pending f).0 (contains_at (pending_of d ring) 0 f first_place) in
    (r.0, record { at = r.1; phase = r.2; on_ring = r.3; rest = split.0; stands = split.1 })

-- the head ends as it should
pub final_right : (r : JobRecord) → r.ran ≤ length r.job.packets → is_complete r ≡ true
    → HasRightOutcome (ended (final_outcome r) r) (Ended (final_outcome r))
final_right r within complete =
    elim (r.is_skipped) as (λ b. r.is_skipped ≡ b → HasRightOutcome (ended (final_outcome r) r) (Ended (if b then outcome.Cancelled else outcome.Good))) [
      | true ↦ λ skipped. skipped
      | false ↦ λ not_skipped.
          elim (or_cases r.is_skipped _ complete) [
            | inl skipped ↦ absurd (both_ways r.is_skipped not_skipped skipped)
            | inr all_ran ↦ (omega (arith, within, leb-true (length r.job.packets) r.ran all_ran), not_skipped)
          ]
    ] refl

-- a job that must come before the head has ended
pub before_head_ended : (d : DeviceState) (ring f i : ℕ) (r x : JobRecord) → IsSteady d → ring < length d.spec.rings → IsHead d ring f r
    → i < f → slice_get d.journal i ≡ Some x → MustFollow i x r → is_queued x.phase ≡ false → x.ring ≡ ring → has_ended x.phase ≡ true
before_head_ended d ring f i r x steady here head lt at_i must begun on_ring =
    elim (cases_Bool (has_ended x.phase)) [
      | inl ended ↦ ended
      | inr going_on ↦
          let pends = ((steady.lawful.rings ring here).pending i).1 (x, at_i, scheduled_from x.phase begun going_on, on_ring) in
          let place = place_of (pending_of d ring) i pends in
          let first_place : slice_get (pending_of d ring) 0 ≡ Some f = ap (λ xs. slice_get xs 0) head.stands in
          let before : place.0 < 0 = steady.order ring here i f x r lt at_i head.at must place.0 0 place.1 first_place in
          absurd (omega (arith, before))
    ]

pub earlier_ended : (d : DeviceState) (ring f i : ℕ) (r x : JobRecord) → IsSteady d → ring < length d.spec.rings → IsHead d ring f r
    → i < f → slice_get d.journal i ≡ Some x → comes_after r.job i x.job ≡ true → has_ended x.phase ≡ true
earlier_ended d ring f i r x steady here head lt at_i comes =
    let met : is_met r.ring x ≡ true = steady.met i f x r lt at_i head.at comes (ap is_queued head.phase) in
    elim (or_cases (has_ended x.phase) (not (is_queued x.phase) && (x.ring == r.ring)) met) [
      | inl ended ↦ ended
      | inr begun ↦
          let both = and_parts (not (is_queued x.phase)) (x.ring == r.ring) begun in
          before_head_ended d ring f i r x steady here head lt at_i (inl comes) (not-true (is_queued x.phase) both.0) (eqb-true x.ring r.ring both.1 ∙ head.on_ring)
    ]

pub earlier_of_entity_ended : (d : DeviceState) (ring f i : ℕ) (r x : JobRecord) → IsSteady d → ring < length d.spec.rings → IsHead d ring f r
    → i < f → slice_get d.journal i ≡ Some x → x.job.entity ≡ r.job.entity → has_ended x.phase ≡ true
earlier_of_entity_ended d ring f i r x steady here head lt at_i entity =
    let order : KeepsEntityOrder i x f r = steady.lawful.entities i f x r lt at_i head.at in
    elim (steady.home i f x r lt at_i head.at entity) [
      | inl over ↦ over
      | inr on ↦ before_head_ended d ring f i r x steady here head lt at_i (inr entity) (order.begun entity (ap is_queued head.phase)) (on ∙ head.on_ring)
    ]

-- what the other rings have pending when a record of this ring ends
pub others_pending : (journal : List JobRecord) (f : ℕ) (r : JobRecord) (o : Outcome) (k : ℕ) (numbers : List ℕ) → slice_get journal f ≡ Some r
    → r.ring ≢ k → IsPendingList journal k numbers → IsPendingList (set journal f (ended o r)) k numbers
others_pending journal f r o k numbers at apart old g = (
  λ c.
      let x = (old g).0 c in
      let g_not : g ≢ f = λ g_is. apart (let is_r : x.0 ≡ r = cc (x.1, at, g_is) in ap (λ (z : JobRecord). z.ring) (sym is_r) ∙ x.3) in
      (x.0, get_set_other journal f g (ended o r) g_not ∙ x.1, x.2, x.3),
  λ x.
      elim (get_set_cases journal f g r (ended o r) x.0 at x.1) [
        | inl it ↦ let never : Ended o ≡ Scheduled = ap (λ (z : JobRecord). z.phase) (sym it.1) ∙ x.2 in absurd (cc (never))
        | inr other ↦ (old g).1 (x.0, other.1, x.2, x.3)
      ],
)

-- what the ring itself has pending when its head ends
pub rest_pending : (journal : List JobRecord) (f : ℕ) (r : JobRecord) (o : Outcome) (k : ℕ) (rest : List ℕ) → slice_get journal f ≡ Some r
    → IsOnce (f ∷ rest) → IsPendingList journal k (f ∷ rest) → IsPendingList (set journal f (ended o r)) k rest
rest_pending journal f r o k rest at once old g = (
  λ c.
      let place = place_of rest g c in
      let g_not : g ≢ f = λ g_is.
      let twice : suc place.0 ≡ 0 = once (suc place.0) 0 f (place.1 ∙ ap Some g_is) refl in absurd (omega (arith, twice)) in
      let x = (old g).0 (contains_at (f ∷ rest) (suc place.0) g place.1) in
      (x.0, get_set_other journal f g (ended o r) g_not ∙ x.1, x.2, x.3),
  λ x.
      elim (get_set_cases journal f g r (ended o r) x.0 at x.1) [
        | inl it ↦ let never : Ended o ≡ Scheduled = ap (λ (z : JobRecord). z.phase) (sym it.1) ∙ x.2 in absurd (cc (never))
        | inr other ↦ behind f g rest other.0 (place_of (f ∷ rest) g ((old g).1 (x.0, other.1, x.2, x.3)))
      ],
) where
  behind : (f g : ℕ) (rest : List ℕ) → g ≢ f → (k : ℕ) × (slice_get (f ∷ rest) k ≡ Some g) → Contains rest g
  behind f g rest apart (zero, is) = absurd (apart (let same : f ≡ g = cc (is) in sym same))
  behind f g rest apart (suc k, is) = contains_at rest k g is

pub once_rest : (f : ℕ) (rest : List ℕ) → IsOnce (f ∷ rest) → IsOnce rest
once_rest f rest once i j g at_i at_j = let same : suc i ≡ suc j = once (suc i) (suc j) g at_i at_j in omega (arith, same)

-- the ring after its head ended
abbrev pub without_head : ℕ → RingState → RingState
without_head now s = record {
  pending = drop 1 s.pending;
  since = if length s.pending == 1 then s.since else now;
}

-- what is needed of the journal after the head ended, and of its ring's state
pub record IsFinish (d : DeviceState) (ring f now : ℕ) (r : JobRecord) (o : Outcome) : Type 0 where
  pub journal : changed_at d.journal f (ended o) ≡ set d.journal f (ended o r)
  pub count : length (finished_device d ring now f o).rings ≡ length d.rings
  pub here : (rest : List ℕ) → pending_of d ring ≡ f ∷ rest → pending_of (finished_device d ring now f o) ring ≡ rest
  pub there : (k : ℕ) → k ≢ ring → pending_of (finished_device d ring now f o) k ≡ pending_of d k

pub finish_is : (d : DeviceState) (ring f now : ℕ) (r : JobRecord) (o : Outcome) → IsLawfulDevice d → ring < length d.spec.rings
    → slice_get d.journal f ≡ Some r → IsFinish d ring f now r o
finish_is d ring f now r o law in_range at =
    let s = ring_there d ring law.ring_count in_range in
    let pends : pending_of d ring ≡ s.0.pending = ap (λ o. option_map_or (λ (r : RingState). r.pending) o []) s.1 in
    record {
      journal = changed_is d.journal f r (ended o) at;
      count = ring_changed_count d.rings ring s.0 (without_head now) s.1;
      here = λ rest is. pending_here d.rings ring s.0 (without_head now) s.1 ∙ ap (drop 1) (sym pends ∙ is);
      there = λ k apart. pending_there d.rings ring k s.0 (without_head now) s.1 apart;
    }

pub finish_lawful : (d : DeviceState) (ring f now : ℕ) (r : JobRecord) → IsSteady d → ring < length d.spec.rings → IsHead d ring f r
    → is_complete r ≡ true → IsLawfulDevice (finished_device d ring now f (final_outcome r))
finish_lawful d ring f now r steady in_range head complete =
    let law = steady.lawful in
    let o = final_outcome r in
    let change = finish_is d ring f now r o law in_range head.at in
    let is_head_once : IsOnce (f ∷ head.rest) = subst IsOnce head.stands (law.rings ring in_range).once in
    let credits_same : (k : ℕ) (numbers : List ℕ) → sum_by (credits_of (finished_device d ring now f o) k) numbers ≡ sum_by (credits_of d k) numbers =
    λ k numbers. sum_by_agree (credits_of (finished_device d ring now f o) k) (credits_of d k) numbers 0
    (λ g. subst (λ js. option_map_or (λ (x : JobRecord). min x.job.credits (credit_limit_of d k)) (slice_get js g) 0 ≡ credits_of d k g) (sym change.journal)
    (credits_kept d.journal f r (ended o r) (credit_limit_of d k) g head.at refl)) in
    record {
      ring_count = change.count ∙ law.ring_count;
      entity_count = law.entity_count;
      memory = law.memory ∙ ap (serial d.spec.buffers)
          (sym (turns_changed d.journal f r (ended o) head.at ∙ set_same (turns d.journal) f (turn_of r) (to_map turn_of d.journal f r head.at)));
      records = λ i x at_i.
          elim (get_set_cases d.journal f i r (ended o r) x head.at (subst (λ js. slice_get js i ≡ Some x) change.journal at_i)) [
            | inl it ↦ subst (IsSound d.spec) (sym it.1) (record {
              job = (law.records f r head.at).job;
              ran = (law.records f r head.at).ran;
              outcome = final_right r (law.records f r head.at).ran complete;
              queued = λ q. let never : false ≡ true = q in absurd (cc (never));
            })
            | inr other ↦ law.records i x other.1
          ];
      rings = λ k k_here.
          elim (cases_eq k ring) [
            | inl k_is ↦ subst (IsLawfulRing (finished_device d ring now f o)) (sym k_is)
                (ring_lawful_by (finished_device d ring now f o) ring head.rest (change.here head.rest head.stands)
                (subst (λ js. IsPendingList js ring head.rest) (sym change.journal)
                (rest_pending d.journal f r o ring head.rest head.at is_head_once (subst (IsPendingList d.journal ring) head.stands (law.rings ring in_range).pending)))
                (once_rest f head.rest is_head_once)
                (let was : sum_by (credits_of d ring) (f ∷ head.rest) ≤ credit_limit_of d ring =
                subst (λ ns. sum_by (credits_of d ring) ns ≤ credit_limit_of d ring) head.stands (law.rings ring in_range).credits in
                omega (arith, was, sum_by-cons (credits_of d ring) f head.rest, credits_same ring head.rest)))
            | inr apart ↦ ring_lawful_by (finished_device d ring now f o) k (pending_of d k) (change.there k apart)
                (subst (λ js. IsPendingList js k (pending_of d k)) (sym change.journal)
                (others_pending d.journal f r o k (pending_of d k) head.at (λ e. apart (sym e ∙ head.on_ring)) (law.rings k k_here).pending))
                (law.rings k k_here).once
                (omega (arith, (law.rings k k_here).credits, credits_same k (pending_of d k)))
          ];
      follows = subst (λ js. EachTwo js ComesInOrder) (sym change.journal) (each_two_set d.journal f r (ended o r) ComesInOrder head.at law.follows
          (λ j y lt at_j old. record { ended = λ comes e. refl; ran = λ comes some_ran. or_right (is_complete (ended o r)) true refl })
          (λ i x lt at_i old. record { ended = λ comes e. earlier_ended d ring f i r x steady in_range head lt at_i comes; ran = old.ran }));
      entities = subst (λ js. EachTwo js KeepsEntityOrder) (sym change.journal) (each_two_set d.journal f r (ended o r) KeepsEntityOrder head.at law.entities
          (λ j y lt at_j old. record { begun = λ same b. refl; ended = λ same e. refl })
          (λ i x lt at_i old. record {
            begun = λ same b. old.begun same (ap is_queued head.phase);
            ended = λ same e. earlier_of_entity_ended d ring f i r x steady in_range head lt at_i same;
          }));
    }

-- the order of the jobs behind the head
pub rest_order : (d : DeviceState) (f : ℕ) (rest : List ℕ) → EachTwo d.journal (StandsInOrder (f ∷ rest)) → EachTwo d.journal (StandsInOrder rest)
rest_order d f rest old i j x y lt at_i at_j must a b at_a at_b =
    let behind : suc a < suc b = old i j x y lt at_i at_j must (suc a) (suc b) at_a at_b in omega (arith, behind)

pub finish_steady : (d : DeviceState) (ring f now : ℕ) (r : JobRecord) → IsSteady d → ring < length d.spec.rings → IsHead d ring f r
    → is_complete r ≡ true → IsSteady (finished_device d ring now f (final_outcome r))
finish_steady d ring f now r steady in_range head complete =
    let o = final_outcome r in
    let change = finish_is d ring f now r o steady.lawful in_range head.at in
    let new = finished_device d ring now f o in
    record {
      lawful = finish_lawful d ring f now r steady in_range head complete;
      met = subst (λ js. EachTwo js BeginsMet) (sym change.journal) (each_two_set d.journal f r (ended o r) BeginsMet head.at steady.met
          (λ j y lt at_j old. λ comes begun. refl)
          (λ i x lt at_i old. λ comes begun. old comes (ap is_queued head.phase)));
      home = subst (λ js. EachTwo js StaysHome) (sym change.journal) (each_two_set d.journal f r (ended o r) StaysHome head.at steady.home
          (λ j y lt at_j old. λ e. inl refl) (λ i x lt at_i old. old));
      listed = λ i x at_i.
          elim (get_set_cases d.journal f i r (ended o r) x head.at (subst (λ js. slice_get js i ≡ Some x) change.journal at_i)) [
            | inl it ↦ subst (λ (z : JobRecord). IsRingOf d.spec z.job.entity z.ring) (sym it.1) (steady.listed f r head.at)
            | inr other ↦ steady.listed i x other.1
          ];
      order = λ k k_here.
          let kept : (numbers : List ℕ) → EachTwo d.journal (StandsInOrder numbers) → EachTwo new.journal (StandsInOrder numbers) =
          λ numbers old. subst (λ js. EachTwo js (StandsInOrder numbers)) (sym change.journal)
          (each_two_set d.journal f r (ended o r) (StandsInOrder numbers) head.at old (λ j y lt at_j old. old) (λ i x lt at_i old. old)) in
          elim (cases_eq k ring) [
            | inl k_is ↦
                subst (λ n. EachTwo new.journal (StandsInOrder (pending_of new n))) (sym k_is)
                (subst (λ ns. EachTwo new.journal (StandsInOrder ns)) (sym (change.here head.rest head.stands))
                (kept head.rest (rest_order d f head.rest (subst (λ ns. EachTwo d.journal (StandsInOrder ns)) head.stands (steady.order ring in_range)))))
            | inr apart ↦
                subst (λ ns. EachTwo new.journal (StandsInOrder ns)) (sym (change.there k apart)) (kept (pending_of d k) (steady.order k k_here))
          ];
    }
