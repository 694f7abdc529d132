-- A cancellation, a hang and a guilty entity lead from a steady device to a steady one.
use Rattle.std.proofs.Common.{◌≡◌, ℕ, zero, suc, ◌<◌, true, false, ◌||◌, ◌&&◌, ◌==◌, List, [], ◌∷◌, map, set, length, Some, None, refl, sym, ap, subst, ◌∙◌, inl, inr, arith, slice_get}
use Rattle.std.specs.Option.{option_map_or}
use Rattle.std.specs.Prelude.{sum_by, min}
use Rattle.std.proofs.lemmas.Bool.{or_cases, or_left, or_right, cases_eq}
use Rattle.std.proofs.lemmas.List.{length-set}
use Rattle.drm_lists.proofs.Places.{to_map, from_map}
use Rattle.drm_lists.proofs.Changed.{get_set_cases, set_same}
use Rattle.drm_types.specs.declared.outcome.Outcome.TheVariants.{Good, Cancelled, Stopped}
use Rattle.drm_serial.specs.Serial.{serial}
use Rattle.drm_fence.specs.declared.phase.Phase.{Phase}
use Rattle.drm_fence.specs.declared.phase.Phase.TheVariants.{Queued, Scheduled, Ended}
use Rattle.drm_state.specs.declared.journal.JobRecord.{JobRecord}
use Rattle.drm_state.specs.State.{EntityState, RingState, DeviceState}
use Rattle.drm_state.specs.Journal.{turns, is_complete, is_over, changed_at}
use Rattle.drm_fence.specs.Phases.{is_scheduled, has_ended}
use Rattle.drm_state.specs.Ring.{pending_of, credits_of, credit_limit_of, entity_changed}
use Rattle.drm_state.specs.Outcomes.{cancelled_device, hung, hung_device, condemned, condemned_device}
use Rattle.drm_state.specs.Lawful.{EachTwo, HasRightOutcome, IsSound, IsPendingList, ComesInOrder, KeepsEntityOrder, IsLawfulDevice}
use Rattle.drm_state.specs.Steady.{BeginsMet, StandsInOrder, IsSteady, StaysHome, IsRingOf}
use Rattle.drm_state.proofs.Records.{turn_of, changed_is, turns_changed}
use Rattle.drm_state.proofs.Pairs.{each_two_set, sum_by_agree}
use Rattle.drm_state.proofs.Pending.{pending_kept, credits_kept}
use Rattle.drm_state.proofs.RingChange.{ring_there, ring_changed_count, pending_here, pending_there, ring_lawful_by}

pub entity_changed_count : (entities : List EntityState) (e : ℕ) (change : EntityState → EntityState) → length (entity_changed entities e change) ≡ length entities
entity_changed_count entities e change =
    elim (slice_get entities e) as (λ o. length (option_map_or (λ s. set entities e (change s)) o entities) ≡ length entities) [
      | None ↦ refl
      | Some s ↦ length-set entities e (change s)
    ]

-- other entities' states change nothing of the laws
pub entities_lawful : (d : DeviceState) (entities : List EntityState) → length entities ≡ length d.entities → IsLawfulDevice d
    → IsLawfulDevice (record d { entities = entities })
entities_lawful d entities count law = record {
  ring_count = law.ring_count;
  entity_count = count ∙ law.entity_count;
  memory = law.memory;
  records = law.records;
  rings = λ k here. let old = law.rings k here in record { pending = old.pending; once = old.once; credits = old.credits };
  follows = law.follows;
  entities = law.entities;
}

pub entities_steady : (d : DeviceState) (entities : List EntityState) → length entities ≡ length d.entities → IsSteady d
    → IsSteady (record d { entities = entities })
entities_steady d entities count steady = record {
  lawful = entities_lawful d entities count steady.lawful;
  met = steady.met;
  home = steady.home;
  listed = steady.listed;
  order = steady.order;
}

pub cancel_steady : (d : DeviceState) (e : ℕ) → IsSteady d → IsSteady (cancelled_device d e)
cancel_steady d e steady =
    entities_steady d (entity_changed d.entities e (λ s. record s { is_stopped = true })) (entity_changed_count d.entities e (λ s. record s { is_stopped = true })) steady

abbrev pub since_at : ℕ → RingState → RingState
since_at now s = record s { since = now }

-- what the rings have pending after a hang
pub pending_after_hang : (d : DeviceState) (ring now f : ℕ) → length d.rings ≡ length d.spec.rings → ring < length d.spec.rings → (k : ℕ)
    → pending_of (hung_device d ring now f) k ≡ pending_of d k
pending_after_hang d ring now f count here k =
    let s = ring_there d ring count here in
    elim (cases_eq k ring) [
      | inl k_is ↦
          subst (λ n. pending_of (hung_device d ring now f) n ≡ pending_of d n) (sym k_is)
          (pending_here d.rings ring s.0 (since_at now) s.1 ∙ sym (ap (λ o. option_map_or (λ (r : RingState). r.pending) o []) s.1))
      | inr apart ↦ pending_there d.rings ring k s.0 (since_at now) s.1 apart
    ]

pub hang_steady : (d : DeviceState) (ring now f : ℕ) (r : JobRecord) → IsSteady d → ring < length d.spec.rings → slice_get d.journal f ≡ Some r
    → IsSteady (hung_device d ring now f)
hang_steady d ring now f r steady here at =
    let law = steady.lawful in
    let new = hung_device d ring now f in
    let same : changed_at d.journal f (hung d) ≡ set d.journal f (hung d r) = changed_is d.journal f r (hung d) at in
    let s = ring_there d ring law.ring_count here in
    let pends = pending_after_hang d ring now f law.ring_count here in
    record {
      lawful = record {
        ring_count = ring_changed_count d.rings ring s.0 (since_at now) s.1 ∙ law.ring_count;
        entity_count = law.entity_count;
        memory = law.memory ∙ ap (serial d.spec.buffers)
            (sym (turns_changed d.journal f r (hung d) at ∙ set_same (turns d.journal) f (turn_of r) (to_map turn_of d.journal f r at)));
        records = λ i x at_i.
            elim (get_set_cases d.journal f i r (hung d r) x at (subst (λ js. slice_get js i ≡ Some x) same at_i)) [
              | inl it ↦
                  let old = law.records f r at in
                  subst (IsSound d.spec) (sym it.1) (record { job = old.job; ran = old.ran; outcome = hung_right r.phase old.outcome; queued = old.queued })
              | inr other ↦ law.records i x other.1
            ];
        rings = λ k k_here.
            let old = law.rings k k_here in
            ring_lawful_by new k (pending_of d k) (pends k)
            (subst (λ js. IsPendingList js k (pending_of d k)) (sym same) (pending_kept d.journal f r (hung d r) k (pending_of d k) at refl refl old.pending))
            old.once
            (let credits : sum_by (credits_of new k) (pending_of d k) ≡ sum_by (credits_of d k) (pending_of d k) =
            sum_by_agree (credits_of new k) (credits_of d k) (pending_of d k) 0
            (λ g. subst (λ js. option_map_or (λ (x : JobRecord). min x.job.credits (credit_limit_of d k)) (slice_get js g) 0 ≡ credits_of d k g) (sym same)
            (credits_kept d.journal f r (hung d r) (credit_limit_of d k) g at refl)) in
            omega (arith, old.credits, credits));
        follows = subst (λ js. EachTwo js ComesInOrder) (sym same) (each_two_set d.journal f r (hung d r) ComesInOrder at law.follows
            (λ j y lt at_j old. record { ended = old.ended; ran = old.ran })
            (λ i x lt at_i old. record { ended = old.ended; ran = old.ran }));
        entities = subst (λ js. EachTwo js KeepsEntityOrder) (sym same) (each_two_set d.journal f r (hung d r) KeepsEntityOrder at law.entities
            (λ j y lt at_j old. record { begun = old.begun; ended = old.ended })
            (λ i x lt at_i old. record { begun = old.begun; ended = old.ended }));
      };
      met = subst (λ js. EachTwo js BeginsMet) (sym same) (each_two_set d.journal f r (hung d r) BeginsMet at steady.met (λ j y lt at_j old. old) (λ i x lt at_i old. old));
      home = subst (λ js. EachTwo js StaysHome) (sym same) (each_two_set d.journal f r (hung d r) StaysHome at steady.home
          (λ j y lt at_j old. old) (λ i x lt at_i old. old));
      listed = λ i x at_i.
          elim (get_set_cases d.journal f i r (hung d r) x at (subst (λ js. slice_get js i ≡ Some x) same at_i)) [
            | inl it ↦ subst (λ (z : JobRecord). IsRingOf d.spec z.job.entity z.ring) (sym it.1) (steady.listed f r at)
            | inr other ↦ steady.listed i x other.1
          ];
      order = λ k k_here. subst (λ ns. EachTwo new.journal (StandsInOrder ns)) (sym (pends k))
          (subst (λ js. EachTwo js (StandsInOrder (pending_of d k))) (sym same)
          (each_two_set d.journal f r (hung d r) (StandsInOrder (pending_of d k)) at (steady.order k k_here) (λ j y lt at_j old. old) (λ i x lt at_i old. old)));
    }
  where
    hung_right : (phase : Phase) → HasRightOutcome r phase → HasRightOutcome (hung d r) phase
    hung_right Queued right = tt
    hung_right Scheduled right = tt
    hung_right (Ended Good) right = right
    hung_right (Ended Cancelled) right = right
    hung_right (Ended Stopped) right = right

-- ---- an entity becomes guilty

-- a relation of each two records of a mapped journal
pub each_two_map : (journal : List JobRecord) (v : JobRecord → JobRecord) (P Q : ℕ → JobRecord → ℕ → JobRecord → Type 0) → EachTwo journal P
    → ((i j : ℕ) (x y : JobRecord) → P i x j y → Q i (v x) j (v y)) → EachTwo (map v journal) Q
each_two_map journal v P Q old step i j x y lt at_i at_j =
    let a = from_map v journal i x at_i in
    let b = from_map v journal j y at_j in
    subst (λ z. Q i z j y) (sym a.2) (subst (λ z. Q i (v a.0) j z) (sym b.2) (step i j a.0 b.0 (old i j a.0 b.0 lt a.1 b.1)))

-- the mark that a condemned record has beside its own is one of a scheduled record
pub condemned_mark : (ring e : ℕ) (r : JobRecord) → is_scheduled r.phase ≡ false → (condemned ring e r).is_skipped ≡ r.is_skipped
condemned_mark ring e r out = ap (λ b. (b && (r.ring == ring) && (r.job.entity == e)) || r.is_skipped) out

pub condemned_right : (ring e : ℕ) (r : JobRecord) → HasRightOutcome r r.phase → HasRightOutcome (condemned ring e r) r.phase
condemned_right ring e r right =
    elim (r.phase) as (λ p. r.phase ≡ p → HasRightOutcome r p → HasRightOutcome (condemned ring e r) p) [
      | Queued ↦ λ is right. tt
      | Scheduled ↦ λ is right. tt
      | Ended o ↦ λ is right. by_outcome o is right
    ] refl right
  where
    by_outcome : (o : _) → r.phase ≡ Ended o → HasRightOutcome r (Ended o) → HasRightOutcome (condemned ring e r) (Ended o)
    by_outcome Good is right = (right.0, condemned_mark ring e r (ap is_scheduled is) ∙ right.1)
    by_outcome Cancelled is right = condemned_mark ring e r (ap is_scheduled is) ∙ right
    by_outcome Stopped is right = right

pub condemned_over : (ring e : ℕ) (r : JobRecord) → is_over r ≡ true → is_over (condemned ring e r) ≡ true
condemned_over ring e r over =
    elim (or_cases (is_complete r) (has_ended r.phase) over) [
      | inr ended ↦ or_right (is_complete (condemned ring e r)) (has_ended r.phase) ended
      | inl complete ↦ or_left (is_complete (condemned ring e r)) (has_ended r.phase)
          (elim (or_cases r.is_skipped _ complete) [
            | inl skipped ↦ or_left (condemned ring e r).is_skipped _ (or_right (is_scheduled r.phase && (r.ring == ring) && (r.job.entity == e)) r.is_skipped skipped)
            | inr all_ran ↦ or_right (condemned ring e r).is_skipped _ all_ran
          ])
    ]

pub turns-condemned : (ring e : ℕ) (journal : List JobRecord) → turns (map (condemned ring e) journal) ≡ turns journal
turns-condemned ring e [] = refl
turns-condemned ring e (r ∷ rs) = ap (λ ts. turn_of r ∷ ts) (turns-condemned ring e rs)

pub condemned_pending : (ring e : ℕ) (journal : List JobRecord) (k : ℕ) (numbers : List ℕ) → IsPendingList journal k numbers
    → IsPendingList (map (condemned ring e) journal) k numbers
condemned_pending ring e journal k numbers old g = (
  λ c. let x = (old g).0 c in (condemned ring e x.0, to_map (condemned ring e) journal g x.0 x.1, x.2, x.3),
  λ x.
      let y = from_map (condemned ring e) journal g x.0 x.1 in
      (old g).1 (y.0, y.1, ap (λ (z : JobRecord). z.phase) (sym y.2) ∙ x.2, ap (λ (z : JobRecord). z.ring) (sym y.2) ∙ x.3),
)

pub condemned_credits : (ring e limit : ℕ) (journal : List JobRecord) (g : ℕ)
    → option_map_or (λ (x : JobRecord). min x.job.credits limit) (slice_get (map (condemned ring e) journal) g) 0
    ≡ option_map_or (λ (x : JobRecord). min x.job.credits limit) (slice_get journal g) 0
condemned_credits ring e limit [] g = refl
condemned_credits ring e limit (r ∷ rs) zero = refl
condemned_credits ring e limit (r ∷ rs) (suc g) = condemned_credits ring e limit rs g

pub condemn_steady : (d : DeviceState) (ring e : ℕ) → IsSteady d → IsSteady (condemned_device d ring e)
condemn_steady d ring e steady =
    let law = steady.lawful in
    let v = condemned ring e in
    let new = condemned_device d ring e in
    record {
      lawful = record {
        ring_count = law.ring_count;
        entity_count = entity_changed_count d.entities e (λ s. record s { is_guilty = true }) ∙ law.entity_count;
        memory = law.memory ∙ ap (serial d.spec.buffers) (sym (turns-condemned ring e d.journal));
        records = λ i x at_i.
            let y = from_map v d.journal i x at_i in
            let old = law.records i y.0 y.1 in
            subst (IsSound d.spec) (sym y.2) (record { job = old.job; ran = old.ran; outcome = condemned_right ring e y.0 old.outcome; queued = old.queued });
        rings = λ k k_here.
            let old = law.rings k k_here in
            ring_lawful_by new k (pending_of d k) refl (condemned_pending ring e d.journal k (pending_of d k) old.pending) old.once
            (let credits : sum_by (credits_of new k) (pending_of d k) ≡ sum_by (credits_of d k) (pending_of d k) =
            sum_by_agree (credits_of new k) (credits_of d k) (pending_of d k) 0 (λ g. condemned_credits ring e (credit_limit_of d k) d.journal g) in
            omega (arith, old.credits, credits));
        follows = each_two_map d.journal v ComesInOrder ComesInOrder law.follows
            (λ i j x y old. record { ended = old.ended; ran = λ comes some_ran. condemned_over ring e x (old.ran comes some_ran) });
        entities = each_two_map d.journal v KeepsEntityOrder KeepsEntityOrder law.entities (λ i j x y old. record { begun = old.begun; ended = old.ended });
      };
      met = each_two_map d.journal v BeginsMet BeginsMet steady.met (λ i j x y old. old);
      home = each_two_map d.journal v StaysHome StaysHome steady.home (λ i j x y old. old);
      listed = λ i x at_i.
          let y = from_map v d.journal i x at_i in subst (λ (z : JobRecord). IsRingOf d.spec z.job.entity z.ring) (sym y.2) (steady.listed i y.0 y.1);
      order = λ k k_here. each_two_map d.journal v (StandsInOrder (pending_of d k)) (StandsInOrder (pending_of d k)) (steady.order k k_here) (λ i j x y old. old);
    }
