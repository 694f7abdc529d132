-- The heads of the queues, as they stand after each event.
use Rattle.std.proofs.Common.{◌≡◌, ◌≢◌, ℕ, ◌-◌, ◌<◌, Bool, true, false, cond, not, ◌&&◌, ◌||◌, ◌==◌, List, [], ◌∷◌, length, set, map, Some, None, Option, refl, sym, ap, subst, ◌∙◌, inl, inr, slice_get, nat_lt}
use Rattle.std.specs.Prelude.{is_none}
use Rattle.std.specs.Option.{option_map_or}
use Rattle.std.specs.List.{filter}
use Rattle.std.proofs.lemmas.Bool.{cases_eq, ne_eqb, eq-eqb}
use Rattle.drm_lists.proofs.Changed.{get_set_same, get_set_other}
use Rattle.drm_types.specs.declared.outcome.Outcome.{Outcome}
use Rattle.drm_types.specs.declared.outcome.Outcome.TheVariants as outcome
use Rattle.drm_types.specs.Firsts.{first, when}
use Rattle.drm_types.proofs.Firsts.{none_first, false_where}
use Rattle.drm_fence.specs.declared.pair.Pair.{Pair}
use Rattle.drm_fence.specs.declared.phase.Phase.{Phase}
use Rattle.drm_fence.specs.declared.phase.Phase.TheVariants.{Queued, Scheduled, Ended}
use Rattle.drm_fence.specs.Phases.{is_queued, is_scheduled}
use Rattle.drm_packet.specs.declared.Packet.{Packet}
use Rattle.drm_state.specs.declared.answer.Answer.{Answer}
use Rattle.drm_state.specs.declared.answer.Answer.TheVariants as answer
use Rattle.drm_sched.specs.declared.heads.Heads.{Heads}
use Rattle.drm_state.specs.declared.journal.JobRecord.{JobRecord}
use Rattle.drm_state.specs.Choice.{queue_of, choice, is_head_of}
use Rattle.drm_sched.specs.Heads.{head_key, with_key, HeadsStand, HeadsStandBut}
use Rattle.drm_state.specs.Journal.{is_at, is_complete}
use Rattle.drm_state.specs.Order.{is_met}
use Rattle.drm_state.specs.Outcomes.{must_stall, at_record, stepped_by, ran_device, step_outcome, hung, hung_device, condemned, condemned_device, is_too_much, hang_outcome, timeout_at, timeout_outcome, ended_at, final_outcome, finished_device, finish_outcome, picked_device, pick_outcome, reap_outcome}
use Rattle.drm_state.specs.Ring.{is_stopped, head_of, current_of, limit_of, age_of, is_guilty, entity_changed}
use Rattle.drm_state.specs.State.{EntityState, DeviceState}
use Rattle.drm_state.specs.Steady.{IsSteady}
use Rattle.drm_sched.specs.Watching.{watched_of}
use Rattle.drm_state.proofs.DeviceSteps.{at_record_is}
use Rattle.drm_state.proofs.FinishLawful.{IsHead, head_is}
use Rattle.drm_sched.proofs.HeadsLeft.{LeavesHead, LeavesUnmet, SameHead, SameHeads, same_heads_itself, same_heads_set, same_heads_map, same_heads_trans, set_leaves, stand_alike, stand_left, but_left}
use Rattle.drm_fence.specs.Waiting.{without_early, without_entity, without_fence}
use Rattle.drm_state.specs.declared.answer.Refusal.TheVariants.{Nothing, Waits}
use Rattle.drm_state.specs.Refusals.{reap_refusal, must_still_wait}
use Rattle.drm_sched.proofs.HeadsKept.{but_key, but_watched, told_alike, pairs_left, no_head_stands, stopped_key, stopped_watched, head_removed, on_no_other}
use Rattle.drm_state.proofs.ChoiceIs.{choice_is}
use Rattle.drm_state.proofs.PickLawful.{not_met, given}
use Rattle.drm_table.proofs.TableFacts.{neither}
use Rattle.drm_sched.proofs.HeadChoice.{first_is}
use Rattle.drm_table.proofs.Queues.{waits_in, IsFront, front_is, head_numbered}
use Rattle.drm_state.proofs.RanLawful.{current_is, one_more_ran}
use Rattle.drm_state.proofs.Records.{changed_is, at_test}

-- the device has the same heads, which wait for the same
pub record LeavesAll (d n : DeviceState) : Type 0 where
  pub spec : n.spec ≡ d.spec
  pub stopped : (entity : ℕ) → is_stopped n entity ≡ is_stopped d entity
  pub heads : SameHeads d.journal n.journal

pub all_itself : (d : DeviceState) → LeavesAll d d
all_itself d = record { spec = refl; stopped = λ e. refl; heads = same_heads_itself d.journal }

pub stand_after : (d n : DeviceState) (waits new_waits : List (List (ℕ × ℕ))) (h : Heads) → LeavesAll d n → new_waits ≡ waits → HeadsStand d waits h → HeadsStand n new_waits h
stand_after d n waits new_waits h leaves same stand =
    subst (λ ws. HeadsStand n ws h) (sym same) (stand_alike d n waits h leaves.spec leaves.stopped leaves.heads stand)

-- a job that was scheduled is in no queue
not_queued : (p : Phase) → p ≡ Scheduled → {X : Type 0} → is_queued p ≡ true → X
not_queued p is q = absurd (let never : false ≡ true = sym (ap is_queued is) ∙ q in cc (never))

-- a packet more
ran_all : (d : DeviceState) (f : ℕ) (r : JobRecord) (p : Packet) → slice_get d.journal f ≡ Some r → r.phase ≡ Scheduled → LeavesAll d (ran_device d f p)
ran_all d f r p at phase = record {
  spec = refl;
  stopped = λ e. refl;
  heads = subst (SameHeads d.journal) (sym (changed_is d.journal f r one_more_ran at))
      (same_heads_set d.journal f r (one_more_ran r) at (record { entity = refl; ring = refl; phase = refl; queued = λ q. not_queued r.phase phase q }));
}

pub step_all : (d : DeviceState) (ring : ℕ) → IsSteady d → ring < length d.spec.rings → LeavesAll d (step_outcome d ring).1
step_all d ring steady there = by_current (current_of d ring) refl
  where
    by_packet : (f : ℕ) (r : JobRecord) → slice_get d.journal f ≡ Some r → r.phase ≡ Scheduled → (o : Option Packet) → LeavesAll d (option_map_or (stepped_by d f) o (answer.Ok, d)).1
    by_packet f r at phase None = all_itself d
    by_packet f r at phase (Some p) =
        elim (is_at d.journal f (λ r. must_stall p r.karma.resets)) as (λ b. LeavesAll d
        (cond {A = Answer × DeviceState} b (answer.Stalled f, d) (answer.Ran f (option_map_or (λ r. r.ran) (slice_get d.journal f) 0), ran_device d f p)).1) [
          | true ↦ all_itself d
          | false ↦ ran_all d f r p at phase
        ]

    by_current : (o : Option ℕ) → current_of d ring ≡ o
        → LeavesAll d (at_record {A = Answer × DeviceState} d (λ number r. option_map_or (stepped_by d number) (slice_get r.job.packets r.ran) (answer.Ok, d)) (answer.Ok, d) o).1
    by_current None now = all_itself d
    by_current (Some f) now =
        let c = current_is d ring f steady.lawful there now in
        at_record_is (λ q. LeavesAll d q.1) d (λ number r. option_map_or (stepped_by d number) (slice_get r.job.packets r.ran) (answer.Ok, d)) (answer.Ok, d) f c.0 c.1.at
        (by_packet f c.0 c.1.at c.1.phase (slice_get c.0.job.packets c.0.ran))

same_stop : (entities : List EntityState) (e entity : ℕ) (s new : EntityState) → slice_get entities e ≡ Some s → new.is_stopped ≡ s.is_stopped
    → option_map_or (λ (x : EntityState). x.is_stopped) (slice_get (set entities e new) entity) false ≡ option_map_or (λ (x : EntityState). x.is_stopped) (slice_get entities entity) false
same_stop entities e entity s new at same =
    elim (cases_eq entity e) [
      | inl here ↦
          ap (λ n. option_map_or (λ (x : EntityState). x.is_stopped) (slice_get (set entities e new) n) false) here
          ∙ (ap (λ o. option_map_or (λ (x : EntityState). x.is_stopped) o false) (get_set_same entities e s new at)
          ∙ (same ∙ (sym (ap (λ o. option_map_or (λ (x : EntityState). x.is_stopped) o false) at) ∙ sym (ap (λ n. option_map_or (λ (x : EntityState). x.is_stopped) (slice_get entities n) false) here))))
      | inr apart ↦ ap (λ o. option_map_or (λ (x : EntityState). x.is_stopped) o false) (get_set_other entities e entity new apart)
    ]

-- a guilty entity is not stopped by that
guilty_stopped : (entities : List EntityState) (e entity : ℕ)
    → option_map_or (λ (s : EntityState). s.is_stopped) (slice_get (entity_changed entities e (λ s. record s { is_guilty = true })) entity) false
    ≡ option_map_or (λ (s : EntityState). s.is_stopped) (slice_get entities entity) false
guilty_stopped entities e entity =
    elim (slice_get entities e) as (λ o. slice_get entities e ≡ o
    → option_map_or (λ (s : EntityState). s.is_stopped) (slice_get (option_map_or (λ s. set entities e (record s { is_guilty = true })) o entities) entity) false
    ≡ option_map_or (λ (s : EntityState). s.is_stopped) (slice_get entities entity) false) [
      | None ↦ λ at. refl
      | Some s ↦ λ at. same_stop entities e entity s (record s { is_guilty = true }) at refl
    ] refl

condemned_head : (ring e : ℕ) (r : JobRecord) → SameHead r (condemned ring e r)
condemned_head ring e r = record { entity = refl; ring = refl; phase = refl; queued = λ q. ap (λ b. record r { is_skipped = (b && (r.ring == ring) && (r.job.entity == e)) || r.is_skipped }) (not_scheduled r.phase q) }
  where
    not_scheduled : (p : Phase) → is_queued p ≡ true → is_scheduled p ≡ false
    not_scheduled Queued q = refl
    not_scheduled Scheduled q = absurd (let never : false ≡ true = q in cc (never))
    not_scheduled (Ended o) q = refl

pub timeout_all : (d : DeviceState) (ring now : ℕ) → IsSteady d → ring < length d.spec.rings → LeavesAll d (timeout_outcome d ring now).1
timeout_all d ring now steady here = by_head (head_of d ring) refl
  where
    hung_all : (f : ℕ) (r : JobRecord) → IsHead d ring f r → LeavesAll d (hung_device d ring now f)
    hung_all f r h = record {
      spec = refl;
      stopped = λ e. refl;
      heads = subst (SameHeads d.journal) (sym (changed_is d.journal f r (hung d) h.at))
          (same_heads_set d.journal f r (hung d r) h.at (record { entity = refl; ring = refl; phase = refl; queued = λ q. not_queued r.phase h.phase q }));
    }

    by_hang : (f : ℕ) (r : JobRecord) → IsHead d ring f r → LeavesAll d (hang_outcome d ring now f r).1
    by_hang f r h =
        elim (is_too_much d ring r) as (λ b. LeavesAll d
        (cond {A = Answer × DeviceState} b
        (answer.Guilty r.job.entity, condemned_device (hung_device d ring now f) ring r.job.entity)
        (answer.Resumed, hung_device d ring now f)).1) [
          | true ↦ record {
            spec = refl;
            stopped = λ e. guilty_stopped d.entities r.job.entity e;
            heads = same_heads_trans d.journal (hung_device d ring now f).journal (map (condemned ring r.job.entity) (hung_device d ring now f).journal) (hung_all f r h).heads
                (same_heads_map (hung_device d ring now f).journal (condemned ring r.job.entity) (λ x. condemned_head ring r.job.entity x));
          }
          | false ↦ hung_all f r h
        ]

    by_head : (o : Option ℕ) → head_of d ring ≡ o → LeavesAll d (at_record d (timeout_at d ring now) (answer.Empty, d) o).1
    by_head None is = all_itself d
    by_head (Some f) is =
        let h = head_is d ring f steady.lawful here is in
        at_record_is (λ p. LeavesAll d p.1) d (timeout_at d ring now) (answer.Empty, d) f h.0 h.1.at
        (elim (nat_lt (age_of d ring now) (limit_of (λ l. l.timeout) d ring)) as (λ b. LeavesAll d
        (cond {A = Answer × DeviceState} b (answer.NotYet (limit_of (λ l. l.timeout) d ring - age_of d ring now), d)
        (cond {A = Answer × DeviceState} (is_complete h.0) (answer.Complete, d) (hang_outcome d ring now f h.0))).1) [
          | true ↦ all_itself d
          | false ↦ elim (is_complete h.0) as (λ b. LeavesAll d (cond {A = Answer × DeviceState} b (answer.Complete, d) (hang_outcome d ring now f h.0)).1) [
            | true ↦ all_itself d
            | false ↦ by_hang f h.0 h.1
          ]
        ])

-- ---- a job that ends

pub record EndsJob (d n : DeviceState) (f : ℕ) : Type 0 where
  pub spec : n.spec ≡ d.spec
  pub entities : n.entities ≡ d.entities
  pub job : JobRecord
  pub at : slice_get d.journal f ≡ Some job
  pub how : Outcome
  pub journal : n.journal ≡ set d.journal f (record job { phase = Ended how })

-- its fence is met on each ring
abbrev ended_met : ℕ → ℕ → ℕ → Bool
ended_met f ring k = k == f

or_true : (b : Bool) → true ≡ (b || true)
or_true true = refl
or_true false = refl

-- the head of an entity in whose queue it was not
pub end_leaves : (d n : DeviceState) (f entity : ℕ) (e : EndsJob d n f) → waits_in entity e.job ≡ false → LeavesHead d n (ended_met f) entity
end_leaves d n f entity e was =
    set_leaves d n (ended_met f) entity f e.job (record e.job { phase = Ended e.how }) e.spec
    (ap (λ (es : List EntityState). option_map_or (λ (s : EntityState). s.is_stopped) (slice_get es entity) false) e.entities) e.at e.journal refl was (ended_waits (e.job.job.entity == entity))
    (λ ring. or_true (is_met ring e.job) ∙ ap (λ b. is_met ring e.job || b) (sym (eq-eqb f f refl)))
    (λ ring m apart. ne_eqb m f apart)
  where
    ended_waits : (b : Bool) → (b && false) ≡ false
    ended_waits true = refl
    ended_waits false = refl

pub end_unmet : (d : DeviceState) (f entity : ℕ) → LeavesUnmet d (ended_met f) entity (λ (p : Pair). not (p.fence == f))
end_unmet d f entity ring dep = refl

finish_ends : (d n : DeviceState) (ring now : ℕ) (f : ℕ) (o : Outcome) → IsSteady d → ring < length d.spec.rings → finish_outcome d ring now ≡ (answer.Finished f o, n)
    → (e : EndsJob d n f) × (e.job.phase ≡ Scheduled)
finish_ends d n ring now f o steady here is = by_head (head_of d ring) refl is
  where
    by_head : (h : Option ℕ) → head_of d ring ≡ h
        → at_record {A = Answer × DeviceState} d (λ number r. (answer.Finished number (final_outcome r), finished_device d ring now number (final_outcome r))) (answer.Ok, d) h ≡ (answer.Finished f o, n)
        → (e : EndsJob d n f) × (e.job.phase ≡ Scheduled)
    by_head None head is = let never : answer.Ok ≡ answer.Finished f o = ap (λ (z : Answer × DeviceState). z.0) is in absurd (cc (never))
    by_head (Some g) head is =
        let h = head_is d ring g steady.lawful here head in
        let told : (answer.Finished g (final_outcome h.0), finished_device d ring now g (final_outcome h.0)) ≡ (answer.Finished f o, n) =
        sym (ap (λ z. option_map_or {U = Answer × DeviceState} (λ r. (answer.Finished g (final_outcome r), finished_device d ring now g (final_outcome r))) z (answer.Ok, d)) h.1.at) ∙ is in
        let answered : answer.Finished g (final_outcome h.0) ≡ answer.Finished f o = ap (λ (z : Answer × DeviceState). z.0) told in
        let same : g ≡ f = cc (answered) in
        let left : finished_device d ring now g (final_outcome h.0) ≡ n = ap (λ (z : Answer × DeviceState). z.1) told in (
          record {
            spec = sym (ap (λ (z : DeviceState). z.spec) left);
            entities = sym (ap (λ (z : DeviceState). z.entities) left);
            job = h.0;
            at = subst (λ k. slice_get d.journal k ≡ Some h.0) same h.1.at;
            how = final_outcome h.0;
            journal = sym (ap (λ (z : DeviceState). z.journal) left)
                ∙ (changed_is d.journal g h.0 (λ r. record r { phase = Ended (final_outcome h.0) }) h.1.at ∙ ap (λ k. set d.journal k (record h.0 { phase = Ended (final_outcome h.0) })) same);
          },
          h.1.phase,
        )

reap_ends : (d n : DeviceState) (entity f : ℕ) → reap_outcome d entity ≡ (answer.Reaped f, n) → (e : EndsJob d n f) × (e.job.job.entity ≡ entity)
reap_ends d n entity f is = by_first (first (queue_of entity d.journal)) refl is
  where
    by_first : (o : Option (ℕ × JobRecord)) → first (queue_of entity d.journal) ≡ o
        → option_map_or {U = Answer × DeviceState} (λ (m : ℕ × JobRecord). (answer.Reaped m.0, record d { journal = ended_at d.journal m.0 outcome.Stopped })) o (answer.Ok, d) ≡ (answer.Reaped f, n)
        → (e : EndsJob d n f) × (e.job.job.entity ≡ entity)
    by_first None none is = let never : answer.Ok ≡ answer.Reaped f = ap (λ (z : Answer × DeviceState). z.0) is in absurd (cc (never))
    by_first (Some m) some is =
        let front = first_is d.journal entity m some in
        let answered : answer.Reaped m.0 ≡ answer.Reaped f = ap (λ (z : Answer × DeviceState). z.0) is in
        let same : m.0 ≡ f = cc (answered) in
        let left : record d { journal = ended_at d.journal m.0 outcome.Stopped } ≡ n = ap (λ (z : Answer × DeviceState). z.1) is in (
          record {
            spec = sym (ap (λ (z : DeviceState). z.spec) left);
            entities = sym (ap (λ (z : DeviceState). z.entities) left);
            job = m.1;
            at = subst (λ k. slice_get d.journal k ≡ Some m.1) same front.at;
            how = outcome.Stopped;
            journal = sym (ap (λ (z : DeviceState). z.journal) left)
                ∙ (changed_is d.journal m.0 m.1 (λ r. record r { phase = Ended outcome.Stopped }) front.at ∙ ap (λ k. set d.journal k (record m.1 { phase = Ended outcome.Stopped })) same);
          },
          front.of_entity,
        )

-- the heads after a job ended that was in no queue, or in that of a stopped entity
pub finish_heads : (d n : DeviceState) (waits new_waits : List (List (ℕ × ℕ))) (h k : Heads) (ring now f : ℕ) (o : Outcome) → IsSteady d → ring < length d.spec.rings
    → finish_outcome d ring now ≡ (answer.Finished f o, n) → new_waits ≡ waits → HeadsStand d waits h
    → k.queues.items ≡ h.queues.items → k.waiters ≡ record h.waiters { pairs = without_fence h.waiters.pairs f } → HeadsStand n new_waits k
finish_heads d n waits new_waits h k ring now f o steady there is same stand queues waiters =
    let e = finish_ends d n ring now f o steady there is in
    subst (λ ws. HeadsStand n ws k) (sym same)
    (stand_left d n waits k (ended_met f) (λ (p : Pair). not (p.fence == f)) e.0.spec
    (λ entity. end_leaves d n f entity e.0 (no_wait entity e.0.job e.1))
    (end_unmet d f)
    (pairs_left d.spec (head_key d) (watched_of d waits) h k (λ (p : Pair). not (p.fence == f)) stand queues waiters))
  where
    no_wait : (entity : ℕ) (r : JobRecord) → r.phase ≡ Scheduled → waits_in entity r ≡ false
    no_wait entity r phase = ap (λ p. (r.job.entity == entity) && is_queued p) phase ∙ and_no (r.job.entity == entity)
      where
        and_no : (b : Bool) → (b && false) ≡ false
        and_no true = refl
        and_no false = refl

stopped_of : (d : DeviceState) (entity : ℕ) → reap_refusal d entity ≡ None → is_stopped d entity ≡ true
stopped_of d entity may =
    let first_none = (none_first (when (not (is_stopped d entity) || is_none (first (queue_of entity d.journal))) Nothing)
    (option_map_or (λ n. when (must_still_wait d.journal n.0 n.1) Waits) (first (queue_of entity d.journal)) None ∷ []) may).0 in
    unnot (is_stopped d entity) (neither (not (is_stopped d entity)) (is_none (first (queue_of entity d.journal))) (false_where (not (is_stopped d entity) || is_none (first (queue_of entity d.journal))) Nothing first_none)).0
  where
    unnot : (b : Bool) → not b ≡ false → b ≡ true
    unnot true is = refl
    unnot false is = sym is

pub reap_heads : (d n : DeviceState) (waits new_waits : List (List (ℕ × ℕ))) (h k : Heads) (entity f : ℕ) → reap_refusal d entity ≡ None
    → reap_outcome d entity ≡ (answer.Reaped f, n) → new_waits ≡ waits → HeadsStand d waits h
    → k.queues.items ≡ h.queues.items → k.waiters ≡ record h.waiters { pairs = without_fence h.waiters.pairs f } → HeadsStand n new_waits k
reap_heads d n waits new_waits h k entity f may is same stand queues waiters =
    let e = reap_ends d n entity f is in
    let stopped = stopped_of d entity may in
    let still : is_stopped n entity ≡ true = ap (λ (es : List EntityState). option_map_or (λ (s : EntityState). s.is_stopped) (slice_get es entity) false) e.0.entities ∙ stopped in
    subst (λ ws. HeadsStand n ws k) (sym same)
    (no_head_stands n waits entity k
    (but_left d n waits k (ended_met f) (λ (p : Pair). not (p.fence == f)) entity e.0.spec
    (λ other apart. end_leaves d n f other e.0 (ap (λ b. b && is_queued e.0.job.phase) (ne_eqb e.0.job.job.entity other (λ i. apart (sym i ∙ e.1)))))
    (end_unmet d f)
    (told_alike d.spec (head_key d) (but_key entity (head_key d)) (λ x. filter (λ (p : Pair). not (p.fence == f)) (watched_of d waits x)) (but_watched entity (λ x. filter (λ (p : Pair). not (p.fence == f)) (watched_of d waits x))) k
    (pairs_left d.spec (head_key d) (watched_of d waits) h k (λ (p : Pair). not (p.fence == f)) stand queues waiters)
    (λ ring x. but_key_is d entity ring x stopped) (λ x. but_watched_is d waits entity f x stopped)))
    (λ ring. stopped_key n entity ring still) (stopped_watched n waits entity still))
  where
    but_key_is : (d : DeviceState) (entity ring x : ℕ) → is_stopped d entity ≡ true → but_key entity (head_key d) ring x ≡ head_key d ring x
    but_key_is d entity ring x stopped =
        elim (cases_eq x entity) [
          | inl same ↦ ap (λ b. cond b None (head_key d ring x)) (eq-eqb x entity same) ∙ sym (ap (head_key d ring) same ∙ stopped_key d entity ring stopped)
          | inr apart ↦ ap (λ b. cond b None (head_key d ring x)) (ne_eqb x entity apart)
        ]

    but_watched_is : (d : DeviceState) (waits : List (List (ℕ × ℕ))) (entity f x : ℕ) → is_stopped d entity ≡ true
        → but_watched entity (λ y. filter (λ (p : Pair). not (p.fence == f)) (watched_of d waits y)) x ≡ filter (λ (p : Pair). not (p.fence == f)) (watched_of d waits x)
    but_watched_is d waits entity f x stopped =
        elim (cases_eq x entity) [
          | inl same ↦
              ap (λ b. cond b [] (filter (λ (p : Pair). not (p.fence == f)) (watched_of d waits x))) (eq-eqb x entity same)
              ∙ sym (ap (λ y. filter (λ (p : Pair). not (p.fence == f)) (watched_of d waits y)) same ∙ ap (filter (λ (p : Pair). not (p.fence == f))) (stopped_watched d waits entity stopped))
          | inr apart ↦ ap (λ b. cond b [] (filter (λ (p : Pair). not (p.fence == f)) (watched_of d waits x))) (ne_eqb x entity apart)
        ]

-- ---- a pick

pub record PicksJob (d n : DeviceState) (ring f : ℕ) : Type 0 where
  pub spec : n.spec ≡ d.spec
  pub entities : n.entities ≡ d.entities
  pub job : JobRecord
  pub at : slice_get d.journal f ≡ Some job
  pub home : job.ring ≡ ring
  pub queued : is_queued job.phase ≡ true
  pub is_head : is_head_of job.job.entity d.journal f ≡ true
  pub skipped : Bool
  pub journal : n.journal ≡ set d.journal f (record job { phase = Scheduled; is_skipped = skipped })

pub pick_picks : (d n : DeviceState) (ring now f : ℕ) (skipped : Bool) → pick_outcome d ring now ≡ (answer.Picked f skipped, n) → PicksJob d n ring f
pick_picks d n ring now f skipped is = by_choice (choice d ring) refl is
  where
    by_choice : (o : Option ℕ) → choice d ring ≡ o
        → at_record {A = Answer × DeviceState} d (λ number r. (answer.Picked number (is_guilty d r.job.entity), picked_device d ring now number)) (answer.Ok, d) o ≡ (answer.Picked f skipped, n)
        → PicksJob d n ring f
    by_choice None chosen is = let never : answer.Ok ≡ answer.Picked f skipped = ap (λ (z : Answer × DeviceState). z.0) is in absurd (cc (never))
    by_choice (Some g) chosen is =
        let c = choice_is d ring g chosen in
        let told : (answer.Picked g (is_guilty d c.0.job.entity), picked_device d ring now g) ≡ (answer.Picked f skipped, n) =
        sym (ap (λ z. option_map_or {U = Answer × DeviceState} (λ r. (answer.Picked g (is_guilty d r.job.entity), picked_device d ring now g)) z (answer.Ok, d)) c.1.at) ∙ is in
        let answered : answer.Picked g (is_guilty d c.0.job.entity) ≡ answer.Picked f skipped = ap (λ (z : Answer × DeviceState). z.0) told in
        let same : g ≡ f = cc (answered) in
        let left : picked_device d ring now g ≡ n = ap (λ (z : Answer × DeviceState). z.1) told in
        record {
          spec = sym (ap (λ (z : DeviceState). z.spec) left);
          entities = sym (ap (λ (z : DeviceState). z.entities) left);
          job = c.0;
          at = subst (λ k. slice_get d.journal k ≡ Some c.0) same c.1.at;
          home = c.1.on_ring;
          queued = c.1.queued;
          is_head = subst (λ k. is_head_of c.0.job.entity d.journal k ≡ true) same c.1.is_head;
          skipped = is_guilty d c.0.job.entity || c.0.is_skipped;
          journal = sym (ap (λ (z : DeviceState). z.journal) left)
              ∙ (changed_is d.journal g c.0 (given d) c.1.at ∙ ap (λ k. set d.journal k (given d c.0)) same);
        }

-- the job is met on its ring
abbrev picked_met : ℕ → ℕ → ℕ → ℕ → Bool
picked_met home f ring k = (k == f) && (home == ring)

pick_leaves_head : (d n : DeviceState) (ring f entity : ℕ) (p : PicksJob d n ring f) → entity ≢ p.job.job.entity → LeavesHead d n (picked_met p.job.ring f) entity
pick_leaves_head d n ring f entity p apart =
    set_leaves d n (picked_met p.job.ring f) entity f p.job (record p.job { phase = Scheduled; is_skipped = p.skipped }) p.spec
    (ap (λ (es : List EntityState). option_map_or (λ (s : EntityState). s.is_stopped) (slice_get es entity) false) p.entities) p.at p.journal refl
    (ap (λ b. b && is_queued p.job.phase) (ne_eqb p.job.job.entity entity (λ i. apart (sym i))))
    (ap (λ b. b && false) (ne_eqb p.job.job.entity entity (λ i. apart (sym i))))
    (λ k. sym (ap (λ b. b || picked_met p.job.ring f k f) (not_met k p.job p.queued) ∙ ap (λ b. b && (p.job.ring == k)) (eq-eqb f f refl)))
    (λ k m other. ap (λ b. b && (p.job.ring == k)) (ne_eqb m f other))

pick_unmet : (d n : DeviceState) (ring f entity : ℕ) (p : PicksJob d n ring f) → LeavesUnmet d (picked_met p.job.ring f) entity (λ (q : Pair). not ((q.fence == f) && q.is_early))
pick_unmet d n ring f entity p k dep =
    elim (cases_eq dep.1 f) [
      | inl same ↦
          ap (λ b. not ((dep.1 == f) && b)) (ap (λ m. is_at d.journal m (λ r. r.ring == k)) same ∙ at_test d.journal f p.job (λ r. r.ring == k) p.at)
      | inr apart ↦ ap (λ b. not (b && is_at d.journal dep.1 (λ r. r.ring == k))) (ne_eqb dep.1 f apart) ∙ sym (ap (λ b. not (b && (p.job.ring == k))) (ne_eqb dep.1 f apart))
    ]

pub pick_heads : (d n : DeviceState) (waits new_waits : List (List (ℕ × ℕ))) (h k m : Heads) (ring f entity : ℕ) (p : PicksJob d n ring f) → IsSteady d → ring < length d.spec.rings → entity ≡ p.job.job.entity
    → new_waits ≡ waits → HeadsStand d waits h → entity < length d.spec.entities
    → k.queues.items ≡ h.queues.items → k.waiters ≡ record h.waiters { pairs = without_early h.waiters.pairs f }
    → m.queues.items ≡ with_key k.queues.items ring entity None → m.waiters ≡ record k.waiters { pairs = without_entity k.waiters.pairs entity } → HeadsStandBut n new_waits entity m
pick_heads d n waits new_waits h k m ring f entity p steady there of_it same stand here queues waiters removed forgot =
    let left : Pair → Bool = λ q. not ((q.fence == f) && q.is_early) in
    subst (λ ws. HeadsStandBut n ws entity m) (sym same)
    (but_left d n waits m (picked_met p.job.ring f) left entity p.spec
    (λ other apart. pick_leaves_head d n ring f other p (λ i. apart (i ∙ sym of_it)))
    (λ other. pick_unmet d n ring f other p)
    (head_removed d.spec (head_key d) (λ e. filter left (watched_of d waits e)) k m ring entity
    (pairs_left d.spec (head_key d) (watched_of d waits) h k left stand queues waiters) there here
    (λ other away. on_no_other d entity other f front.0 front.1.first (λ i. away (i ∙ home))) removed forgot))
  where
    front : (r : JobRecord) × IsFront d.journal entity f r
    front = front_is d.journal entity f (head_numbered d.journal entity f (subst (λ e. is_head_of e d.journal f ≡ true) (sym of_it) p.is_head))

    home : front.0.ring ≡ ring
    home = (let at = p.at in let at_front = front.1.at in let same : front.0 ≡ p.job = cc (at, at_front) in ap (λ (r : JobRecord). r.ring) same ∙ p.home)
