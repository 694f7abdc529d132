-- A reap leads from a steady device to a steady one.
use Rattle.std.proofs.Common.{◌≡◌, ◌≢◌, ℕ, ◌+◌, ◌<◌, Bool, true, false, not, ◌&&◌, ◌==◌, List, ◌++◌, take, set, Some, refl, sym, ap, subst, ◌∙◌, inl, inr, arith, slice_get}
use Rattle.std.specs.Option.{option_map_or}
use Rattle.std.specs.Prelude.{sum_by, min, filter, find}
use Rattle.std.specs.List.{list_all}
use Rattle.std.proofs.lemmas.Bool.{and_parts, or_left, or_right, eq-eqb}
use Rattle.std.proofs.lemmas.List.Folds.{list_all-append}
use Rattle.drm_lists.proofs.Searches.{find_first}
use Rattle.drm_lists.proofs.Places.{to_map, get_numbered, get_take}
use Rattle.drm_lists.proofs.Changed.{get_set_other, get_set_cases, set_same}
use Rattle.drm_types.specs.declared.outcome.Outcome.TheVariants as outcome
use Rattle.drm_serial.specs.Serial.{serial}
use Rattle.drm_fence.specs.declared.phase.Phase.{Phase}
use Rattle.drm_fence.specs.declared.phase.Phase.TheVariants.{Queued, Scheduled, Ended}
use Rattle.drm_state.specs.declared.journal.JobRecord.{JobRecord}
use Rattle.drm_state.specs.State.{DeviceState}
use Rattle.drm_state.specs.Journal.{numbered, turns, is_complete, changed_at}
use Rattle.drm_fence.specs.Phases.{is_queued, has_ended}
use Rattle.drm_state.specs.Order.{comes_after, dependencies, have_ended}
use Rattle.drm_state.specs.Choice.{queue_of}
use Rattle.drm_types.specs.Firsts.{first}
use Rattle.drm_state.specs.Ring.{pending_of, credits_of, credit_limit_of}
use Rattle.drm_state.specs.Outcomes.{ended_at}
use Rattle.drm_state.specs.Lawful.{EachTwo, IsSound, IsPendingList, ComesInOrder, KeepsEntityOrder}
use Rattle.drm_state.specs.Steady.{BeginsMet, StandsInOrder, IsSteady, StaysHome, IsRingOf}
use Rattle.drm_state.proofs.Records.{turn_of, changed_is, turns_changed}
use Rattle.drm_state.proofs.Pairs.{each_two_set, sum_by_agree}
use Rattle.drm_state.proofs.Pending.{credits_kept}
use Rattle.drm_state.proofs.RingChange.{ring_lawful_by}
use Rattle.drm_state.proofs.FinishLawful.{ended}
use Rattle.drm_state.proofs.PickLawful.{not_scheduled}
use Rattle.drm_state.proofs.ChoiceIs.{numbered_get, all_of_filter, first-filter, is_queued_of}

-- the head of a queue that may be reaped: all that it comes after, and all earlier of its entity, have ended
pub record IsReapable (d : DeviceState) (f : ℕ) (r : JobRecord) : Type 0 where
  pub at : slice_get d.journal f ≡ Some r
  pub queued : is_queued r.phase ≡ true
  pub after : (i : ℕ) (x : JobRecord) → i < f → slice_get d.journal i ≡ Some x → comes_after r.job i x.job ≡ true → has_ended x.phase ≡ true
  pub entity : (i : ℕ) (x : JobRecord) → i < f → slice_get d.journal i ≡ Some x → x.job.entity ≡ r.job.entity → has_ended x.phase ≡ true

pub reapable : (d : DeviceState) (e : ℕ) (n : ℕ × JobRecord) → first (queue_of e d.journal) ≡ Some n
    → have_ended (dependencies d.journal n.0 n.1.job ++ filter (λ m. m.1.job.entity == n.1.job.entity) (take n.0 (numbered d.journal))) ≡ true
    → IsReapable d n.0 n.1
reapable d e n is_head all =
    let found : find (is_queued_of e) (numbered d.journal) ≡ Some n = sym (first-filter (is_queued_of e) (numbered d.journal)) ∙ is_head in
    let q = find_first (is_queued_of e) (numbered d.journal) n found in
    let m = numbered_get d.journal 0 q.0 n q.1 in
    let passes = and_parts (n.1.job.entity == e) (is_queued n.1.phase) q.2 in
    let number : q.0 ≡ n.0 = omega (arith, m.0) in
    let test : ℕ × JobRecord → Bool = λ m. has_ended m.1.phase in
    let of_entity : ℕ × JobRecord → Bool = λ m. m.1.job.entity == n.1.job.entity in
    let comes : ℕ × JobRecord → Bool = λ m. comes_after n.1.job m.0 m.1.job in
    let both = and_parts (list_all test (dependencies d.journal n.0 n.1.job)) (list_all test (filter of_entity (take n.0 (numbered d.journal))))
    (sym (list_all-append test (dependencies d.journal n.0 n.1.job) (filter of_entity (take n.0 (numbered d.journal)))) ∙ all) in
    record {
      at = subst (λ k. slice_get d.journal k ≡ Some n.1) number m.1;
      queued = passes.1;
      after = λ i x lt at_i c.
          all_of_filter test comes (take n.0 (numbered d.journal)) i (0 + i, x) both.0
          (get_take (numbered d.journal) n.0 i lt ∙ get_numbered d.journal 0 i x at_i)
          (let zero_add : 0 + i ≡ i = omega arith in subst (λ k. comes_after n.1.job k x.job ≡ true) (sym zero_add) c);
      entity = λ i x lt at_i same.
          all_of_filter test of_entity (take n.0 (numbered d.journal)) i (0 + i, x) both.1
          (get_take (numbered d.journal) n.0 i lt ∙ get_numbered d.journal 0 i x at_i)
          (eq-eqb x.job.entity n.1.job.entity same);
    }

-- what the rings have pending when a queued record ends
pub queued_pending : (journal : List JobRecord) (f : ℕ) (r : JobRecord) (k : ℕ) (numbers : List ℕ) → slice_get journal f ≡ Some r
    → is_queued r.phase ≡ true → IsPendingList journal k numbers → IsPendingList (set journal f (ended outcome.Stopped r)) k numbers
queued_pending journal f r k numbers at queued old g = (
  λ c.
      let x = (old g).0 c in
      let g_not : g ≢ f = λ g_is. not_scheduled r.phase queued (let is_r : x.0 ≡ r = cc (x.1, at, g_is) in ap (λ (z : JobRecord). z.phase) (sym is_r) ∙ x.2) in
      (x.0, get_set_other journal f g (ended outcome.Stopped r) g_not ∙ x.1, x.2, x.3),
  λ x.
      elim (get_set_cases journal f g r (ended outcome.Stopped r) x.0 at x.1) [
        | inl it ↦ let never : Ended outcome.Stopped ≡ Scheduled = ap (λ (z : JobRecord). z.phase) (sym it.1) ∙ x.2 in absurd (cc (never))
        | inr other ↦ (old g).1 (x.0, other.1, x.2, x.3)
      ],
)

-- a phase that has ended is not queued
pub ended_begun : (phase : Phase) → has_ended phase ≡ true → is_queued phase ≡ false
ended_begun Queued e = let never : false ≡ true = e in absurd (cc (never))
ended_begun Scheduled e = refl
ended_begun (Ended o) e = refl

abbrev pub reaped_device : DeviceState → ℕ → DeviceState
reaped_device d f = record d { journal = ended_at d.journal f outcome.Stopped }

pub reap_steady : (d : DeviceState) (f : ℕ) (r : JobRecord) → IsSteady d → IsReapable d f r → IsSteady (reaped_device d f)
reap_steady d f r steady reap =
    let law = steady.lawful in
    let last = ended outcome.Stopped r in
    let new = reaped_device d f in
    let same : changed_at d.journal f (ended outcome.Stopped) ≡ set d.journal f last = changed_is d.journal f r (ended outcome.Stopped) reap.at in
    record {
      lawful = record {
        ring_count = law.ring_count;
        entity_count = law.entity_count;
        memory = law.memory ∙ ap (serial d.spec.buffers)
            (sym (turns_changed d.journal f r (ended outcome.Stopped) reap.at ∙ set_same (turns d.journal) f (turn_of r) (to_map turn_of d.journal f r reap.at)));
        records = λ i x at_i.
            elim (get_set_cases d.journal f i r last x reap.at (subst (λ js. slice_get js i ≡ Some x) same at_i)) [
              | inl it ↦
                  let old = law.records f r reap.at in
                  subst (IsSound d.spec) (sym it.1) (record {
                    job = old.job;
                    ran = old.ran;
                    outcome = old.queued reap.queued;
                    queued = λ q. let never : false ≡ true = q in absurd (cc (never));
                  })
              | inr other ↦ law.records i x other.1
            ];
        rings = λ k k_here.
            let old = law.rings k k_here in
            ring_lawful_by new k (pending_of d k) refl
            (subst (λ js. IsPendingList js k (pending_of d k)) (sym same) (queued_pending d.journal f r k (pending_of d k) reap.at reap.queued old.pending))
            old.once
            (let credits : sum_by (credits_of new k) (pending_of d k) ≡ sum_by (credits_of d k) (pending_of d k) =
            sum_by_agree (credits_of new k) (credits_of d k) (pending_of d k) 0
            (λ g. subst (λ js. option_map_or (λ (x : JobRecord). min x.job.credits (credit_limit_of d k)) (slice_get js g) 0 ≡ credits_of d k g) (sym same)
            (credits_kept d.journal f r last (credit_limit_of d k) g reap.at refl)) in
            omega (arith, old.credits, credits));
        follows = subst (λ js. EachTwo js ComesInOrder) (sym same) (each_two_set d.journal f r last ComesInOrder reap.at law.follows
            (λ j y lt at_j old. record { ended = λ comes e. refl; ran = λ comes some_ran. or_right (is_complete last) true refl })
            (λ i x lt at_i old. record { ended = λ comes e. reap.after i x lt at_i comes; ran = old.ran }));
        entities = subst (λ js. EachTwo js KeepsEntityOrder) (sym same) (each_two_set d.journal f r last KeepsEntityOrder reap.at law.entities
            (λ j y lt at_j old. record { begun = λ entity b. refl; ended = λ entity e. refl })
            (λ i x lt at_i old. record {
              begun = λ entity b. ended_begun x.phase (reap.entity i x lt at_i entity);
              ended = λ entity e. reap.entity i x lt at_i entity;
            }));
      };
      met = subst (λ js. EachTwo js BeginsMet) (sym same) (each_two_set d.journal f r last BeginsMet reap.at steady.met
          (λ j y lt at_j old. λ comes begun. refl)
          (λ i x lt at_i old. λ comes begun. or_left (has_ended x.phase) (not (is_queued x.phase) && (x.ring == r.ring)) (reap.after i x lt at_i comes)));
      home = subst (λ js. EachTwo js StaysHome) (sym same) (each_two_set d.journal f r last StaysHome reap.at steady.home
          (λ j y lt at_j old. λ e. inl refl) (λ i x lt at_i old. old));
      listed = λ i x at_i.
          elim (get_set_cases d.journal f i r last x reap.at (subst (λ js. slice_get js i ≡ Some x) same at_i)) [
            | inl it ↦ subst (λ (z : JobRecord). IsRingOf d.spec z.job.entity z.ring) (sym it.1) (steady.listed f r reap.at)
            | inr other ↦ steady.listed i x other.1
          ];
      order = λ k k_here. subst (λ js. EachTwo js (StandsInOrder (pending_of d k))) (sym same)
          (each_two_set d.journal f r last (StandsInOrder (pending_of d k)) reap.at (steady.order k k_here) (λ j y lt at_j old. old) (λ i x lt at_i old. old));
    }
