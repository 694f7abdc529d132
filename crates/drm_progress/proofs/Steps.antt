-- One event of a core: the device stays steady and grows, and where a job goes on, one record has less left.
use Rattle.std.proofs.Common.{[], ◌≡◌, ℕ, Bool, true, false, cond, ◌&&◌, ◌∷◌, Some, None, Option, refl, sym, ap, subst, ◌∙◌, inl, inr, ◌⊎◌, arith, length}
use Rattle.std.specs.Prelude.{nat_lt, is_none, option_map, find}
use Rattle.std.specs.Option.{option_map_or}
use Rattle.std.proofs.lemmas.Bool.{and_parts, ltb-true}
use Rattle.drm_types.specs.Firsts.{when, first_of}
use Rattle.drm_types.proofs.Firsts.{none_first, none_of_map}
use Rattle.drm_job.specs.declared.Draft.{Draft}
use Rattle.drm_job.specs.Fault.{IsJob, job_fault, buffers_of}
use Rattle.drm_fence.specs.declared.phase.Phase.{Phase}
use Rattle.drm_fence.specs.declared.phase.Phase.TheVariants.{Queued, Scheduled, Ended}
use Rattle.drm_state.specs.declared.answer.Answer.{Answer}
use Rattle.drm_state.specs.declared.answer.Answer.TheVariants as answer
use Rattle.drm_state.specs.declared.answer.Refusal.{Refusal}
use Rattle.drm_state.specs.declared.answer.Refusal.TheVariants.{Faulty, Held, Idle}
use Rattle.drm_state.specs.State.{DeviceState}
use Rattle.drm_state.specs.Chosen.{ChoiceIsLeast}
use Rattle.drm_state.specs.Events.{IsKept, DevicesStaySteady}
use Rattle.drm_state.specs.Grows.{GoesOn, Grows}
use Rattle.drm_state.specs.Ring.{current_of, head_of}
use Rattle.drm_state.specs.Refusals.{pick_refusal, step_refusal, finish_refusal, reap_refusal}
use Rattle.drm_state.specs.Outcomes.{at_record, step_outcome, pick_outcome, finish_outcome, timeout_outcome, reap_outcome, cancelled_device}
use Rattle.drm_state.specs.Journal.{is_at}
use Rattle.drm_state.specs.Steady.{IsSteady}
use Rattle.drm_core.specs.declared.event.Event.{Event}
use Rattle.drm_core.specs.declared.event.Event.TheVariants as event
use Rattle.drm_core.specs.State.{Context, CoreState}
use Rattle.drm_core.specs.Context.{context_of, holder_of, is_held, ticket_of, with_context, with_holder}
use Rattle.drm_core.specs.Names.{names_exist}
use Rattle.drm_core.specs.Refusals.{plan_of, early_refusal, late_refusal, takes_memory}
use Rattle.drm_core.specs.Outcomes.{armed_core, context_changed, try_outcome, outcome_of_event}
use Rattle.drm_core.specs.Step.{unless_refused, Step}
use Rattle.drm_progress.specs.Going.{Going, may_come, runs_packet, is_late, waits_for_reset}
use Rattle.drm_progress.specs.Cores.{event_at, lets_go_on}
use Rattle.drm_progress.proofs.Lists.{none_is}
use Rattle.drm_progress.proofs.Work.{HasLess}
use Rattle.drm_progress.proofs.Falls.{stepped, pick_falls, step_falls, finish_falls, reap_falls, hang_falls}

-- ---- what a device grows to

-- a device that is steady, and that the old one grew to
pub record Moved (old new : DeviceState) : Type 0 where
  pub steady : IsSteady new
  pub grows : Grows old new

goes_on_itself : (p : Phase) → GoesOn p p
goes_on_itself Queued = tt
goes_on_itself Scheduled = tt
goes_on_itself (Ended o) = refl

grows_itself : (d : DeviceState) → Grows d d
grows_itself d = record {
  spec = refl;
  journal = λ i r at. (
    r,
    at,
    record {
      job = refl;
      ring = refl;
      phase = goes_on_itself r.phase;
      ran = omega arith;
      resets = omega arith;
      karma = omega arith;
      skipped = λ s. s;
      kept = λ k. refl;
    },
  );
  entities = λ i e at. (e, at, record { stopped = λ s. s; guilty = λ g. g });
}

-- the device of another state is the same
pub unmoved : (d new : DeviceState) → IsSteady d → new ≡ d → Moved d new
unmoved d new steady same = subst (λ (e : DeviceState). Moved d e) (sym same) (record { steady = steady; grows = grows_itself d })

kept_moves : (old new : DeviceState) → IsKept old new → Moved old new
kept_moves old new kept = record { steady = kept.steady; grows = kept.grows }

-- ---- an event that is not refused

context_keeps : (s : CoreState) (ctx : ℕ) (change : Context → Context) → (context_changed s ctx change).device ≡ s.device
context_keeps s ctx change = by_context (context_of s ctx)
  where
    by_context : (o : Option Context) → (option_map_or (λ c. with_context s ctx (Some (change c))) o s).device ≡ s.device
    by_context None = refl
    by_context (Some c) = refl

try_keeps : (s : CoreState) (ctx buffer : ℕ) → (try_outcome s ctx buffer).1.device ≡ s.device
try_keeps s ctx buffer = by_holder (holder_of s buffer)
  where
    by_age : (h : ℕ) (b : Bool) → (cond {A = Answer × CoreState} b (answer.Older (ticket_of s h), s) (answer.Younger (ticket_of s h), s)).1.device ≡ s.device
    by_age h true = refl
    by_age h false = refl

    by_holder : (o : Option ℕ)
        → (option_map_or {U = Answer × CoreState} (λ h. cond {A = Answer × CoreState} (nat_lt (ticket_of s h) (ticket_of s ctx)) (answer.Older (ticket_of s h), s) (answer.Younger (ticket_of s h), s)) o (answer.Held, with_holder s buffer (Some ctx))).1.device ≡ s.device
    by_holder None = refl
    by_holder (Some h) = by_age h (nat_lt (ticket_of s h) (ticket_of s ctx))

-- each plan is a job
abbrev pub PlansAreJobs : CoreState → Type 0
PlansAreJobs s = (ctx : ℕ) (job : Draft) → plan_of s ctx ≡ Some job → IsJob s.device.spec job

outcome_moves : DevicesStaySteady → (s : CoreState) (e : Event Draft) → IsSteady s.device → PlansAreJobs s → names_exist s.device.spec e ≡ true
    → early_refusal s e ≡ None → Moved s.device (outcome_of_event s e).1.device
outcome_moves laws s (event.Submit draft) steady plans names early =
    let first = none_first (option_map Faulty (job_fault s.device.spec draft)) (option_map Held (find (is_held s) (buffers_of draft)) ∷ []) early in
    let armed = (laws.events s.device steady).arms draft (none_of_map Faulty (job_fault s.device.spec draft) first.0) in
    record { steady = armed.steady; grows = armed.grows }
outcome_moves laws s (event.Begin ctx) steady plans names early = unmoved s.device s.device steady refl
outcome_moves laws s (event.Try ctx buffer) steady plans names early =
    unmoved s.device (try_outcome s ctx buffer).1.device steady (try_keeps s ctx buffer)
outcome_moves laws s (event.Done ctx) steady plans names early =
    unmoved s.device (outcome_of_event s (event.Done ctx)).1.device steady (context_keeps s ctx (λ c. record c { is_sealed = true }))
outcome_moves laws s (event.Drop ctx buffer) steady plans names early =
    unmoved s.device (outcome_of_event s (event.Drop ctx buffer)).1.device steady (context_keeps (with_holder s buffer None) ctx (λ c. record c { plan = None }))
outcome_moves laws s (event.End ctx) steady plans names early = unmoved s.device s.device steady refl
outcome_moves laws s (event.Plan ctx draft) steady plans names early =
    unmoved s.device (outcome_of_event s (event.Plan ctx draft)).1.device steady (context_keeps s ctx (λ c. record c { is_sealed = true; plan = Some draft }))
outcome_moves laws s (event.Arm ctx) steady plans names early = by_plan (plan_of s ctx) refl
  where
    by_plan : (o : Option Draft) → plan_of s ctx ≡ o
        → Moved s.device (option_map_or {U = Answer × CoreState} (λ job. (answer.Armed (length s.device.journal), context_changed (armed_core s job) ctx (λ c. record c { plan = None }))) o (answer.Ok, s)).1.device
    by_plan None is = unmoved s.device s.device steady refl
    by_plan (Some job) is =
        let armed = (laws.events s.device steady).arms job (plans ctx job is) in
        subst (λ (e : DeviceState). Moved s.device e) (sym (context_keeps (armed_core s job) ctx (λ c. record c { plan = None })))
        (record { steady = armed.steady; grows = armed.grows })
outcome_moves laws s (event.Pick ring now) steady plans names early =
    kept_moves s.device (pick_outcome s.device ring now).1 ((laws.events s.device steady).picks ring now (ltb-true ring (length s.device.spec.rings) names) early)
outcome_moves laws s (event.Step ring) steady plans names early =
    kept_moves s.device (step_outcome s.device ring).1 ((laws.events s.device steady).steps ring (ltb-true ring (length s.device.spec.rings) names))
outcome_moves laws s (event.Finish ring now) steady plans names early =
    kept_moves s.device (finish_outcome s.device ring now).1 ((laws.events s.device steady).finishes ring now (ltb-true ring (length s.device.spec.rings) names) early)
outcome_moves laws s (event.Timeout ring now) steady plans names early =
    kept_moves s.device (timeout_outcome s.device ring now).1 ((laws.events s.device steady).timeouts ring now (ltb-true ring (length s.device.spec.rings) names))
outcome_moves laws s (event.Cancel entity) steady plans names early =
    kept_moves s.device (cancelled_device s.device entity) ((laws.events s.device steady).cancels entity)
outcome_moves laws s (event.Reap entity) steady plans names early =
    kept_moves s.device (reap_outcome s.device entity).1 ((laws.events s.device steady).reaps entity early)
outcome_moves laws s (event.Read ctx buffer) steady plans names early = unmoved s.device s.device steady refl
outcome_moves laws s (event.Status fence) steady plans names early = unmoved s.device s.device steady refl
outcome_moves laws s (event.Dump buffer) steady plans names early = unmoved s.device s.device steady refl

-- ---- an event

-- it changed nothing, or had its outcome
step_cases : (s : CoreState) (e : Event Draft) (a : Answer) (t : CoreState) → Step s e a t
    → (t ≡ s) ⊎ ((early_refusal s e ≡ None) × (t ≡ (outcome_of_event s e).1))
step_cases s e a t (inr lacks) = inl lacks.keeps
step_cases s e a t (inl is) = by_refusal (first_of (early_refusal s e ∷ late_refusal s e ∷ [])) refl is
  where
    by_refusal : (o : Option Refusal) → first_of (early_refusal s e ∷ late_refusal s e ∷ []) ≡ o → (a, t) ≡ unless_refused o s (outcome_of_event s e)
        → (t ≡ s) ⊎ ((early_refusal s e ≡ None) × (t ≡ (outcome_of_event s e).1))
    by_refusal (Some why) refused same = inl (ap (λ (p : Answer × CoreState). p.1) same)
    by_refusal None none same =
        inr ((none_first (early_refusal s e) (late_refusal s e ∷ []) none).0, ap (λ (p : Answer × CoreState). p.1) same)

pub step_moves : DevicesStaySteady → (s : CoreState) (e : Event Draft) (a : Answer) (t : CoreState) → IsSteady s.device → PlansAreJobs s
    → names_exist s.device.spec e ≡ true → Step s e a t → Moved s.device t.device
step_moves laws s e a t steady plans names step =
    elim (step_cases s e a t step) [
      | inl same ↦ unmoved s.device t.device steady (ap (λ (n : CoreState). n.device) same)
      | inr had ↦ subst (λ (n : CoreState). Moved s.device n.device) (sym had.1) (outcome_moves laws s e steady plans names had.0)
    ]

-- an event that takes no memory and is not refused has its outcome
not_refused : (s : CoreState) (e : Event Draft) (a : Answer) (t : CoreState) → takes_memory e ≡ false → early_refusal s e ≡ None → late_refusal s e ≡ None
    → Step s e a t → t ≡ (outcome_of_event s e).1
not_refused s e a t forgoes early late (inr lacks) = absurd (let never : false ≡ true = sym forgoes ∙ lacks.takes in cc (never))
not_refused s e a t forgoes early late (inl is) =
    ap (λ (p : Answer × CoreState). p.1) is
    ∙ ap (λ o. (unless_refused (first_of (o ∷ late_refusal s e ∷ [])) s (outcome_of_event s e)).1) early
    ∙ ap (λ o. (unless_refused (first_of (None ∷ o ∷ [])) s (outcome_of_event s e)).1) late

led_by_outcome : (s : CoreState) (e : Event Draft) (a : Answer) (t : CoreState) → takes_memory e ≡ false → early_refusal s e ≡ None → late_refusal s e ≡ None
    → Step s e a t → HasLess s.device.journal (outcome_of_event s e).1.device.journal → HasLess s.device.journal t.device.journal
led_by_outcome s e a t forgoes early late step less =
    subst (λ (n : CoreState). HasLess s.device.journal n.device.journal) (sym (not_refused s e a t forgoes early late step)) less

-- a ring that runs a packet is not idle
not_idle : (d : DeviceState) (ring : ℕ) → runs_packet (step_outcome d ring).0 ≡ true → step_refusal d ring ≡ None
not_idle d ring ran = by_current (current_of d ring) ran
  where
    by_current : (o : Option ℕ) → runs_packet (at_record d (stepped d) (answer.Ok, d) o).0 ≡ true → when (is_none o) Idle ≡ None
    by_current None ran = absurd (cc (ran))
    by_current (Some f) ran = refl

-- where the event lets a job go on, one record has less left
pub going_lessens : ChoiceIsLeast → (s : CoreState) (e : Event Draft) (a : Answer) (t : CoreState) → IsSteady s.device → lets_go_on s.device e ≡ true
    → Step s e a t → HasLess s.device.journal t.device.journal
going_lessens choices s (event.Pick ring now) a t steady comes step =
    let free = none_is (pick_refusal s.device ring) (and_parts (nat_lt ring (length s.device.spec.rings)) (is_none (pick_refusal s.device ring)) comes).1 in
    led_by_outcome s (event.Pick ring now) a t refl free refl step (pick_falls choices s.device ring now steady free)
going_lessens choices s (event.Step ring) a t steady comes step =
    let ran = (and_parts (nat_lt ring (length s.device.spec.rings)) (runs_packet (step_outcome s.device ring).0) comes).1 in
    led_by_outcome s (event.Step ring) a t refl (not_idle s.device ring ran) refl step (step_falls s.device ring ran)
going_lessens choices s (event.Finish ring now) a t steady comes step =
    let parts = and_parts (nat_lt ring (length s.device.spec.rings)) (is_none (finish_refusal s.device ring)) comes in
    let free = none_is (finish_refusal s.device ring) parts.1 in
    led_by_outcome s (event.Finish ring now) a t refl free refl step
    (finish_falls s.device ring now steady.lawful (ltb-true ring (length s.device.spec.rings) parts.0) free)
going_lessens choices s (event.Timeout ring now) a t steady comes step =
    let waits = option_map_or (λ head. is_at s.device.journal head waits_for_reset) (head_of s.device ring) false in
    let parts = and_parts (nat_lt ring (length s.device.spec.rings) && is_late s.device ring now) waits comes in
    let early = and_parts (nat_lt ring (length s.device.spec.rings)) (is_late s.device ring now) parts.0 in
    led_by_outcome s (event.Timeout ring now) a t refl refl refl step (hang_falls s.device ring now steady.lawful early.1 parts.1)
going_lessens choices s (event.Reap entity) a t steady comes step =
    let free = none_is (reap_refusal s.device entity) (and_parts (nat_lt entity (length s.device.spec.entities)) (is_none (reap_refusal s.device entity)) comes).1 in
    led_by_outcome s (event.Reap entity) a t refl free refl step (reap_falls s.device entity free)
going_lessens choices s e a t steady comes step = absurd (cc (comes))

-- ---- the event by which something comes

pub event_named : (d : DeviceState) (now : ℕ) (going : Going) → may_come d now going ≡ true → names_exist d.spec (event_at now going) ≡ true
event_named d now (Going.Pick ring) comes = (and_parts (nat_lt ring (length d.spec.rings)) (is_none (pick_refusal d ring)) comes).0
event_named d now (Going.Step ring) comes = (and_parts (nat_lt ring (length d.spec.rings)) (runs_packet (step_outcome d ring).0) comes).0
event_named d now (Going.Finish ring) comes = (and_parts (nat_lt ring (length d.spec.rings)) (is_none (finish_refusal d ring)) comes).0
event_named d now (Going.Hang ring) comes =
    let waits = option_map_or (λ head. is_at d.journal head waits_for_reset) (head_of d ring) false in
    (and_parts (nat_lt ring (length d.spec.rings)) (is_late d ring now) (and_parts (nat_lt ring (length d.spec.rings) && is_late d ring now) waits comes).0).0
event_named d now (Going.Reap entity) comes = (and_parts (nat_lt entity (length d.spec.entities)) (is_none (reap_refusal d entity)) comes).0

pub event_lets : (d : DeviceState) (now : ℕ) (going : Going) → may_come d now going ≡ true → lets_go_on d (event_at now going) ≡ true
event_lets d now (Going.Pick ring) comes = comes
event_lets d now (Going.Step ring) comes = comes
event_lets d now (Going.Finish ring) comes = comes
event_lets d now (Going.Hang ring) comes = comes
event_lets d now (Going.Reap entity) comes = comes
