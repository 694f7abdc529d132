-- What a step tells: it was refused and changed nothing, or was not and had its outcome.
use Rattle.std.proofs.Common.{◌≡◌, ℕ, ◌<◌, Bool, true, false, cond, List, [], ◌∷◌, Some, None, Option, refl, sym, ap, subst, ◌∙◌, inl, inr, ◌⊎◌, slice_get}
use Rattle.std.specs.Option.{option_map_or}
use Rattle.std.specs.Prelude.{option_map, nat_lt, length}
use Rattle.std.proofs.lemmas.Bool.{cases_eq, ltb-true, both_ways}
use Rattle.std.proofs.lemmas.List.{get_or-set_other}
use Rattle.std.proofs.lemmas.List.Elements.{All-contains}
use Rattle.std.proofs.lemmas.List.Sums.{AllPass-from_list_all}
use Rattle.drm_types.specs.Firsts.{first_of}
use Rattle.drm_types.specs.Usages.{added_usage, is_as_strong}
use Rattle.drm_types.specs.declared.access.Access.{Access}
use Rattle.drm_types.specs.declared.access.Access.TheVariants as access
use Rattle.drm_types.specs.declared.access.Usage.TheVariants.{Write}
use Rattle.drm_packet.specs.declared.Packet.{Packet}
use Rattle.drm_packet.specs.Effect.{effect}
use Rattle.drm_packet.specs.Touches.{writes}
use Rattle.drm_packet.proofs.Commute.{cases_packet}
use Rattle.drm_buffer.specs.Memory.{bytes_of}
use Rattle.drm_job.specs.declared.Draft.{Draft}
use Rattle.drm_job.specs.Uses.{access_of, may_write, can_write}
use Rattle.drm_job.proofs.Apart.{IsWithin}
use Rattle.drm_types.proofs.Firsts.{none_first}
use Rattle.drm_job.proofs.Within.{stays_within}
use Rattle.drm_serial.proofs.Commute.{within_at}
use Rattle.drm_fence.specs.Phases.{has_ended}
use Rattle.drm_fence.specs.declared.phase.Phase.{Phase}
use Rattle.drm_fence.specs.declared.phase.Phase.TheVariants.{Queued, Scheduled, Ended}
use Rattle.drm_state.specs.declared.answer.Answer.{Answer}
use Rattle.drm_state.specs.declared.answer.Answer.TheVariants as answer
use Rattle.drm_core.specs.declared.event.Event.{Event}
use Rattle.drm_core.specs.declared.event.Event.TheVariants as event
use Rattle.drm_state.specs.declared.answer.Refusal.{Refusal}
use Rattle.drm_state.specs.declared.answer.Refusal.TheVariants.{Memory}
use Rattle.drm_state.specs.declared.journal.JobRecord.{JobRecord}
use Rattle.drm_state.specs.State.{DeviceState}
use Rattle.drm_core.specs.State.{Context, CoreState}
use Rattle.drm_state.specs.Journal.{is_at, is_complete}
use Rattle.drm_state.specs.Choice.{queue_of, choice}
use Rattle.drm_types.specs.Firsts.{first}
use Rattle.drm_state.specs.Ring.{limit_of, head_of, current_of, age_of}
use Rattle.drm_core.specs.Context.{context_of, holder_of, ticket_of, with_holder}
use Rattle.drm_state.specs.Grows.{GoesOn}
use Rattle.drm_core.specs.Names.{names_exist}
use Rattle.drm_core.specs.Refusals.{plan_of, early_refusal, late_refusal}
use Rattle.drm_state.specs.Outcomes.{must_stall, ran_device, stepped_by, is_too_much, hung_device, condemned_device, timeout_at, at_record, step_outcome, timeout_outcome}
use Rattle.drm_core.specs.Outcomes.{armed_core, context_changed, outcome_of_event}
use Rattle.drm_core.specs.Step.{unless_refused, Step}
use Rattle.drm_state.specs.Lawful.{IsLawfulDevice}
use Rattle.drm_state.specs.Writers.{is_writer}
use Rattle.drm_core.specs.Headline.{WritersEnded}
use Rattle.drm_core.proofs.DeviceFacts.{at_record_is}
use Rattle.drm_core.proofs.DeviceFacts.{IsCurrent, current_is}

-- an event that was refused
pub record WasRefused (old : CoreState) (given : Answer) (new : CoreState) : Type 0 where
  pub why : Refusal
  pub answers : given ≡ answer.Refused why
  pub keeps : new ≡ old

-- an event that was not refused
pub record HadOutcome (old : CoreState) (further : Event Draft) (given : Answer) (new : CoreState) : Type 0 where
  pub early : early_refusal old further ≡ None
  pub late : late_refusal old further ≡ None
  pub answers : given ≡ (outcome_of_event old further).0
  pub leaves : new ≡ (outcome_of_event old further).1

pub cases_step : (s : CoreState) (e : Event Draft) (a : Answer) (n : CoreState) → Step s e a n → WasRefused s a n ⊎ HadOutcome s e a n
cases_step s e a n (inr lacks) = inl (record { why = Memory; answers = lacks.answers; keeps = lacks.keeps })
cases_step s e a n (inl is) = by_refusal (first_of (early_refusal s e ∷ late_refusal s e ∷ [])) refl is
  where
    by_refusal : (o : Option Refusal) → first_of (early_refusal s e ∷ late_refusal s e ∷ []) ≡ o → (a, n) ≡ unless_refused o s (outcome_of_event s e)
        → WasRefused s a n ⊎ HadOutcome s e a n
    by_refusal (Some r) refused same =
        inl (record { why = r; answers = ap (λ (p : Answer × CoreState). p.0) same; keeps = ap (λ (p : Answer × CoreState). p.1) same })
    by_refusal None none same =
        let early = none_first (early_refusal s e) (late_refusal s e ∷ []) none in
        inr (record {
          early = early.0;
          late = (none_first (late_refusal s e) [] early.1).0;
          answers = ap (λ (p : Answer × CoreState). p.0) same;
          leaves = ap (λ (p : Answer × CoreState). p.1) same;
        })

-- an outcome stays
pub ended_stays : (p q : Phase) → GoesOn p q → has_ended p ≡ true → q ≡ p
ended_stays Queued q goes e = let never : false ≡ true = e in absurd (cc (never))
ended_stays Scheduled q goes e = let never : false ≡ true = e in absurd (cc (never))
ended_stays (Ended o) q goes e = goes

-- what holds of both holds of the one that is chosen
pub at_cond : {A : Type 0} (P : A → Type 0) (b : Bool) (x y : A) → P x → P y → P (cond b x y)
at_cond P true x y p q = p
at_cond P false x y p q = q

pub at_option : {A B : Type 0} (P : B → Type 0) (f : A → B) (o : Option A) (none : B) → P none → ((x : A) → P (f x)) → P (option_map_or f o none)
at_option P f None none p q = p
at_option P f (Some x) none p q = q x

pub at_any_record : (P : Answer × DeviceState → Type 0) (d : DeviceState) (F : ℕ → JobRecord → Answer × DeviceState) (none : Answer × DeviceState) (o : Option ℕ)
    → P none → ((f : ℕ) (r : JobRecord) → P (F f r)) → P (at_record d F none o)
at_any_record P d F none None p q = p
at_any_record P d F none (Some f) p q = at_option P (F f) (slice_get d.journal f) none p (q f)

-- what holds wherever a timeout ends
pub at_timeout : (P : Answer × DeviceState → Type 0) (d : DeviceState) (ring now : ℕ) → ((a : ℕ) → P (answer.NotYet a, d)) → P (answer.Empty, d) → P (answer.Complete, d)
    → ((f : ℕ) → P (answer.Resumed, hung_device d ring now f)) → ((f e : ℕ) → P (answer.Guilty e, condemned_device (hung_device d ring now f) ring e))
    → P (timeout_outcome d ring now)
at_timeout P d ring now not_yet empty complete resumed guilty =
    at_any_record P d (timeout_at d ring now) (answer.Empty, d) (head_of d ring) empty (λ f r.
    at_cond P (nat_lt (age_of d ring now) (limit_of (λ l. l.timeout) d ring)) _ _ (not_yet _)
    (at_cond P (is_complete r) _ _ complete
    (at_cond P (is_too_much d ring r) _ _ (guilty f r.job.entity) (resumed f))))

-- whether an answer is a refusal
abbrev pub is_refusal : Answer → Bool
is_refusal (answer.Refused why) = true
is_refusal _ = false

-- an outcome is no refusal
pub outcome_given : (s : CoreState) (e : Event Draft) → is_refusal (outcome_of_event s e).0 ≡ false
outcome_given s (event.Submit draft) = refl
outcome_given s (event.Begin ctx) = refl
outcome_given s (event.Try ctx b) =
    at_option (λ (p : Answer × CoreState). is_refusal p.0 ≡ false) _ (holder_of s b) (answer.Held, with_holder s b (Some ctx)) refl
    (λ h. at_cond (λ (p : Answer × CoreState). is_refusal p.0 ≡ false) (nat_lt (ticket_of s h) (ticket_of s ctx)) _ _ refl refl)
outcome_given s (event.Done ctx) = refl
outcome_given s (event.Drop ctx b) = refl
outcome_given s (event.End ctx) = refl
outcome_given s (event.Plan ctx draft) = refl
outcome_given s (event.Arm ctx) = at_option (λ (p : Answer × CoreState). is_refusal p.0 ≡ false) _ (plan_of s ctx) (answer.Ok, s) refl (λ job. refl)
outcome_given s (event.Pick ring now) =
    at_any_record (λ p. is_refusal p.0 ≡ false) s.device _ (answer.Ok, s.device) (choice s.device ring) refl (λ f r. refl)
outcome_given s (event.Step ring) =
    at_any_record (λ p. is_refusal p.0 ≡ false) s.device _ (answer.Ok, s.device) (current_of s.device ring) refl
    (λ f r. at_option (λ (p : Answer × DeviceState). is_refusal p.0 ≡ false) (stepped_by s.device f) (slice_get r.job.packets r.ran) (answer.Ok, s.device) refl
    (λ p. at_cond (λ (p : Answer × DeviceState). is_refusal p.0 ≡ false) (is_at s.device.journal f (λ r. must_stall p r.karma.resets)) _ _ refl refl))
outcome_given s (event.Finish ring now) =
    at_any_record (λ p. is_refusal p.0 ≡ false) s.device _ (answer.Ok, s.device) (head_of s.device ring) refl (λ f r. refl)
outcome_given s (event.Timeout ring now) =
    at_timeout (λ p. is_refusal p.0 ≡ false) s.device ring now (λ a. refl) refl refl (λ f. refl) (λ f e. refl)
outcome_given s (event.Cancel e) = refl
outcome_given s (event.Reap e) =
    at_option (λ (p : Answer × DeviceState). is_refusal p.0 ≡ false) _ (first (queue_of e s.device.journal)) (answer.Ok, s.device) refl (λ n. refl)
outcome_given s (event.Read ctx b) = refl
outcome_given s (event.Status f) = refl
outcome_given s (event.Dump b) = refl

-- an event that is refused changes nothing
pub refused_keeps : (s : CoreState) (e : Event Draft) (why : Refusal) (n : CoreState) → Step s e (answer.Refused why) n → n ≡ s
refused_keeps s e why n step = elim (cases_step s e (answer.Refused why) n step) [
  | inl refused ↦ refused.keeps
  | inr had ↦ absurd (both_ways (is_refusal (outcome_of_event s e).0) (outcome_given s e) (ap is_refusal (sym had.answers)))
]

-- a job whose packets may write a buffer is a writer of it
pub writes_as_declared : (o : Option Access) → option_map_or may_write o false ≡ true
    → option_map_or (λ usage. is_as_strong usage Write) (option_map added_usage o) false ≡ true
writes_as_declared None e = let never : false ≡ true = e in cc (never)
writes_as_declared (Some access.Read) e = let never : false ≡ true = e in cc (never)
writes_as_declared (Some access.Write) e = refl
writes_as_declared (Some access.Hold) e = let never : false ≡ true = e in cc (never)
writes_as_declared (Some access.Move) e = refl

-- a packet leaves each buffer that its job does not write
pub packet_leaves : (job : Draft) (p : Packet) (m : List (List ℕ)) (b : ℕ) → IsWithin job p → (is_writer job b ≡ true → ⊥) → bytes_of (effect p m) b ≡ bytes_of m b
packet_leaves job p m b within no_writer = elim (cases_packet p) [
  | inl nothing ↦ ap (λ (m : List (List ℕ)). bytes_of m b) (nothing m)
  | inr w ↦ elim (cases_eq b w.target) [
    | inl here ↦
        let can = All-contains (λ x. can_write job x ≡ true) (writes p) w.target (AllPass-from_list_all (can_write job) (writes p) within.writable) w.writes_target in
        absurd (no_writer (subst (λ x. is_writer job x ≡ true) (sym here) (writes_as_declared (access_of job w.target) can)))
    | inr apart ↦ ap (λ (m : List (List ℕ)). bytes_of m b) (w.is m) ∙ get_or-set_other m w.target b _ [] apart
  ]
]

-- the bytes of the device stay
abbrev pub LeavesBytes : DeviceState → ℕ → Answer × DeviceState → Type 0
LeavesBytes d b p = bytes_of p.1.memory b ≡ bytes_of d.memory b

-- a ring's step leaves a buffer whose writers have all ended
pub step_leaves : (d : DeviceState) (ring b : ℕ) → IsLawfulDevice d → ring < length d.spec.rings
    → ((f : ℕ) (r : JobRecord) → slice_get d.journal f ≡ Some r → is_writer r.job b ≡ true → has_ended r.phase ≡ true) → LeavesBytes d b (step_outcome d ring)
step_leaves d ring b law here writers = by_current (current_of d ring) refl
  where
    by_packet : (f : ℕ) (r : JobRecord) → IsCurrent d ring f r → (o : Option Packet) → slice_get r.job.packets r.ran ≡ o
        → LeavesBytes d b (option_map_or (stepped_by d f) o (answer.Ok, d))
    by_packet f r now None none = refl
    by_packet f r now (Some p) next =
        at_cond (LeavesBytes d b) (is_at d.journal f (λ r. must_stall p r.karma.resets)) (answer.Stalled f, d)
        (answer.Ran f (option_map_or (λ r. r.ran) (slice_get d.journal f) 0), ran_device d f p) refl
        (packet_leaves r.job p d.memory b (within_at r.job r.ran p (stays_within d.spec r.job (law.records f r now.at).job) next)
        (λ is. both_ways (has_ended r.phase) (ap has_ended now.phase) (writers f r now.at is)))

    by_current : (o : Option ℕ) → current_of d ring ≡ o
        → LeavesBytes d b (at_record {A = Answer × DeviceState} d (λ number r. option_map_or (stepped_by d number) (slice_get r.job.packets r.ran) (answer.Ok, d)) (answer.Ok, d) o)
    by_current None is = refl
    by_current (Some f) is =
        let c = current_is d ring f law here is in
        at_record_is (LeavesBytes d b) d (λ number r. option_map_or (stepped_by d number) (slice_get r.job.packets r.ran) (answer.Ok, d)) (answer.Ok, d) f c.0 c.1.at
        (by_packet f c.0 c.1 (slice_get c.0.job.packets c.0.ran) refl)

-- an event leaves a buffer whose writers have all ended
pub outcome_leaves : (s : CoreState) (e : Event Draft) (b : ℕ) → IsLawfulDevice s.device → names_exist s.device.spec e ≡ true → WritersEnded s b
    → bytes_of (outcome_of_event s e).1.device.memory b ≡ bytes_of s.device.memory b
outcome_leaves s e b law names writers = by_event e names
  where
    Leaves : Answer × CoreState → Type 0
    Leaves p = bytes_of p.1.device.memory b ≡ bytes_of s.device.memory b

    by_context : (m : CoreState) (ctx : ℕ) (change : Context → Context) → bytes_of m.device.memory b ≡ bytes_of s.device.memory b
        → bytes_of (context_changed m ctx change).device.memory b ≡ bytes_of s.device.memory b
    by_context m ctx change is = at_option (λ (n : CoreState). bytes_of n.device.memory b ≡ bytes_of s.device.memory b) _ (context_of m ctx) m is (λ c. is)

    by_event : (e : Event Draft) → names_exist s.device.spec e ≡ true → Leaves (outcome_of_event s e)
    by_event (event.Submit draft) names = refl
    by_event (event.Begin ctx) names = refl
    by_event (event.Try ctx k) names =
        at_option Leaves _ (holder_of s k) (answer.Held, with_holder s k (Some ctx)) refl
        (λ h. at_cond Leaves (nat_lt (ticket_of s h) (ticket_of s ctx)) _ _ refl refl)
    by_event (event.Done ctx) names = by_context s ctx _ refl
    by_event (event.Drop ctx k) names = by_context (with_holder s k None) ctx _ refl
    by_event (event.End ctx) names = refl
    by_event (event.Plan ctx draft) names = by_context s ctx _ refl
    by_event (event.Arm ctx) names =
        at_option Leaves _ (plan_of s ctx) (answer.Ok, s) refl (λ job. by_context (armed_core s job) ctx _ refl)
    by_event (event.Pick ring now) names = at_any_record (LeavesBytes s.device b) s.device _ (answer.Ok, s.device) (choice s.device ring) refl (λ f r. refl)
    by_event (event.Step ring) names = step_leaves s.device ring b law (ltb-true _ _ names) writers
    by_event (event.Finish ring now) names = at_any_record (LeavesBytes s.device b) s.device _ (answer.Ok, s.device) (head_of s.device ring) refl (λ f r. refl)
    by_event (event.Timeout ring now) names = at_timeout (LeavesBytes s.device b) s.device ring now (λ a. refl) refl refl (λ f. refl) (λ f e. refl)
    by_event (event.Cancel k) names = refl
    by_event (event.Reap k) names =
        at_option (LeavesBytes s.device b) _ (first (queue_of k s.device.journal)) (answer.Ok, s.device) refl (λ n. refl)
    by_event (event.Read ctx k) names = refl
    by_event (event.Status f) names = refl
    by_event (event.Dump k) names = refl

pub step_leaves_bytes : (s : CoreState) (e : Event Draft) (a : Answer) (n : CoreState) (b : ℕ) → IsLawfulDevice s.device → names_exist s.device.spec e ≡ true
    → Step s e a n → WritersEnded s b → bytes_of n.device.memory b ≡ bytes_of s.device.memory b
step_leaves_bytes s e a n b law names step writers = elim (cases_step s e a n step) [
  | inl refused ↦ ap (λ (m : CoreState). bytes_of m.device.memory b) refused.keeps
  | inr had ↦ ap (λ (m : CoreState). bytes_of m.device.memory b) had.leaves ∙ outcome_leaves s e b law names writers
]
