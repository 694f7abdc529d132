-- What a context may read stays so, until it gives it up.
use Rattle.std.proofs.Common.{◌≡◌, ◌≢◌, ℕ, zero, suc, ◌<◌, Bool, true, false, cond, ◌==◌, List, [], ◌∷◌, ◌++◌, set, Some, None, Option, refl, sym, ap, subst, ◌∙◌, inl, inr, ◌⊎◌, slice_get}
use Rattle.std.specs.Option.{option_map_or}
use Rattle.std.specs.Prelude.{option_and_then, option_map, nat_lt, length, is_some, is_none, Contains, not, find}
use Rattle.std.proofs.lemmas.Bool.{cases_eq, both_ways, eqb-true}
use Rattle.std.proofs.lemmas.List.{length-map}
use Rattle.std.proofs.lemmas.List.Elements.{All-contains}
use Rattle.std.proofs.lemmas.List.Sums.{AllPass-from_list_all}
use Rattle.std.proofs.lemmas.Option.{slice_get_within}
use Rattle.drm_types.specs.Firsts.{when, first}
use Rattle.drm_types.specs.Usages.{is_as_strong}
use Rattle.drm_types.specs.declared.access.Access.{Access}
use Rattle.drm_types.specs.declared.access.Usage.{Usage}
use Rattle.drm_types.specs.declared.access.Usage.TheVariants.{Write}
use Rattle.drm_types.specs.declared.spec.DeviceSpec.{DeviceSpec}
use Rattle.drm_job.specs.declared.Draft.{Draft}
use Rattle.drm_job.specs.Fault.{job_fault, buffers_of}
use Rattle.drm_types.proofs.Firsts.{none_first, none_when}
use Rattle.drm_fence.specs.Phases.{has_ended}
use Rattle.drm_state.specs.declared.answer.Answer.{Answer}
use Rattle.drm_state.specs.declared.answer.Answer.TheVariants as answer
use Rattle.drm_core.specs.declared.event.Event.{Event}
use Rattle.drm_core.specs.declared.event.Event.TheVariants as event
use Rattle.drm_state.specs.declared.answer.Refusal.TheVariants.{CtxIdle, Faulty, Held, NotAllHeld, NotHeld}
use Rattle.drm_state.specs.declared.journal.JobRecord.{JobRecord}
use Rattle.drm_state.specs.State.{DeviceState}
use Rattle.drm_core.specs.State.{Context, CoreState, opened}
use Rattle.drm_state.specs.Journal.{is_at}
use Rattle.drm_state.specs.Choice.{queue_of, choice}
use Rattle.drm_state.specs.Ring.{head_of, current_of}
use Rattle.drm_state.specs.Arming.{new_record}
use Rattle.drm_state.specs.Reservation.{usage_at}
use Rattle.drm_core.specs.Context.{context_of, holder_of, is_held, holds, holds_all, ticket_of, with_context, with_holder}
use Rattle.drm_state.specs.Grows.{RecordGrows, EachInPlace}
use Rattle.drm_core.specs.Refusals.{plan_of, idle_refusal, not_held_refusal, early_refusal}
use Rattle.drm_state.specs.Outcomes.{must_stall, ran_device, stepped_by}
use Rattle.drm_core.specs.Outcomes.{armed_core, context_changed, outcome_of_event}
use Rattle.drm_core.specs.Run.{Run}
use Rattle.drm_core.specs.Steady.{PlansHeld}
use Rattle.drm_core.specs.Step.{Step}
use Rattle.drm_state.specs.Writers.{is_writer}
use Rattle.drm_core.specs.Headline.{MayRead, GivesUp}
use Rattle.drm_lists.proofs.Changed.{get_set_other}
use Rattle.drm_lists.proofs.Places.{stands_within, to_map, contains_at, place_of, get_push_cases}
use Rattle.drm_core.proofs.Lists.{each_fails}
use Rattle.drm_core.proofs.DeviceFacts.{changed_count}
use Rattle.drm_core.proofs.CoreSteps.{plan_in}
use Rattle.drm_core.proofs.Opening.{no_plans}
use Rattle.drm_core.proofs.CoreArmed.{used_declared}
use Rattle.drm_core.proofs.HeadlineSteps.{cases_step, ended_stays, at_cond, at_option, at_any_record, at_timeout}

-- ---- who holds a buffer

-- the holder of a buffer among these
abbrev pub holds_in : List (Option ℕ) → ℕ → ℕ → Bool
holds_in holders ctx b = option_map_or (λ h. h == ctx) (option_and_then (λ o. o) (slice_get holders b)) false

pub only_holder : (o : Option ℕ) (k ctx : ℕ) → option_map_or (λ h. h == k) o false ≡ true → option_map_or (λ h. h == ctx) o false ≡ true → k ≡ ctx
only_holder None k ctx p q = let never : false ≡ true = p in cc (never)
only_holder (Some h) k ctx p q = sym (eqb-true h k p) ∙ eqb-true h ctx q

pub is_held_by : (o : Option ℕ) (ctx : ℕ) → option_map_or (λ h. h == ctx) o false ≡ true → is_some o ≡ true
is_held_by None ctx p = p
is_held_by (Some h) ctx p = refl

-- another buffer gets another holder
pub other_holder : (s : CoreState) (k : ℕ) (o : Option ℕ) (ctx b : ℕ) → b ≢ k → holds s ctx b ≡ true → holds (with_holder s k o) ctx b ≡ true
other_holder s k o ctx b apart held =
    ap (λ x. option_map_or (λ h. h == ctx) (option_and_then (λ (o : Option ℕ). o) x) false) (get_set_other s.holders k b o apart) ∙ held

-- a holder stays, until it drops the buffer
pub holder_stays : (s : CoreState) (e : Event Draft) (ctx b : ℕ) → holds s ctx b ≡ true → early_refusal s e ≡ None → (e ≡ event.Drop ctx b → ⊥)
    → holds (outcome_of_event s e).1 ctx b ≡ true
holder_stays s e ctx b held early stays = by_event e early stays
  where
    Holds : Answer × CoreState → Type 0
    Holds p = holds p.1 ctx b ≡ true

    by_context : (m : CoreState) (k : ℕ) (change : Context → Context) → holds m ctx b ≡ true → holds (context_changed m k change) ctx b ≡ true
    by_context m k change is = at_option (λ (n : CoreState). holds n ctx b ≡ true) _ (context_of m k) m is (λ c. is)

    by_try : (k c : ℕ) (o : Option ℕ) → holder_of s k ≡ o → Holds (option_map_or {U = Answer × CoreState}
        (λ h. cond {A = Answer × CoreState} (nat_lt (ticket_of s h) (ticket_of s c)) (answer.Older (ticket_of s h), s) (answer.Younger (ticket_of s h), s))
        o
        (answer.Held, with_holder s k (Some c)))
    by_try k c (Some h) is = at_cond Holds (nat_lt (ticket_of s h) (ticket_of s c)) _ _ held held
    by_try k c None is = other_holder s k (Some c) ctx b (λ same.
        let never : false ≡ true = sym (ap (λ o. option_map_or (λ h. h == ctx) o false) (ap (holder_of s) same ∙ is)) ∙ held in cc (never)) held

    by_event : (e : Event Draft) → early_refusal s e ≡ None → (e ≡ event.Drop ctx b → ⊥) → Holds (outcome_of_event s e)
    by_event (event.Submit draft) early stays = held
    by_event (event.Begin k) early stays = held
    by_event (event.Try k c) early stays = by_try c k (holder_of s c) refl
    by_event (event.Done k) early stays = by_context s k _ held
    by_event (event.Drop k c) early stays =
        by_context (with_holder s c None) k _ (other_holder s c None ctx b (λ same.
        let owns : holds s k c ≡ true =
        none_when (holds s k c) (NotHeld c) (none_first (not_held_refusal s k c) [] (none_first (idle_refusal s k) (not_held_refusal s k c ∷ []) early).1).0 in
        let is_ctx : k ≡ ctx = only_holder (holder_of s c) k ctx owns (subst (λ x. holds s ctx x ≡ true) same held) in
        stays (ap (λ x. event.Drop x c) is_ctx ∙ ap (event.Drop ctx) (sym same))) held)
    by_event (event.End k) early stays = held
    by_event (event.Plan k draft) early stays = by_context s k _ held
    by_event (event.Arm k) early stays = at_option Holds _ (plan_of s k) (answer.Ok, s) held (λ job. by_context (armed_core s job) k _ held)
    by_event (event.Pick ring now) early stays = held
    by_event (event.Step ring) early stays = held
    by_event (event.Finish ring now) early stays = held
    by_event (event.Timeout ring now) early stays = held
    by_event (event.Cancel k) early stays = held
    by_event (event.Reap k) early stays = held
    by_event (event.Read k c) early stays = held
    by_event (event.Status f) early stays = held
    by_event (event.Dump c) early stays = held

-- ---- a plan's buffers are held by its context

-- where a plan after an event comes from: it was there, and its context dropped nothing, or it was planned now
abbrev pub ComesFrom : CoreState → Event Draft → ℕ → Draft → Type 0
ComesFrom s e k job = ((plan_of s k ≡ Some job) × ((b : ℕ) → e ≡ event.Drop k b → ⊥)) ⊎ (e ≡ event.Plan k job)

pub get_set_here : {X : Type 0} (xs : List X) (i : ℕ) (y : X) → (slice_get (set xs i y) i ≡ Some y) ⊎ (slice_get (set xs i y) i ≡ None)
get_set_here [] i y = inr refl
get_set_here (x ∷ xs) zero y = inl refl
get_set_here (x ∷ xs) (suc i) y = get_set_here xs i y

-- the plan of a context after one was changed
pub plan_cases : (contexts : List (Option Context)) (ctx k : ℕ) (c : Option Context) (job : Draft) → plan_in (slice_get (set contexts ctx c) k) ≡ Some job
    → ((k ≡ ctx) × (option_map_or (λ (c : Context). c.plan) c None ≡ Some job)) ⊎ ((k ≢ ctx) × (plan_in (slice_get contexts k) ≡ Some job))
plan_cases contexts ctx k c job is = elim (cases_eq k ctx) [
  | inr apart ↦ inr (apart, sym (ap plan_in (get_set_other contexts ctx k c apart)) ∙ is)
  | inl same ↦
      let here : plan_in (slice_get (set contexts ctx c) ctx) ≡ Some job = subst (λ n. plan_in (slice_get (set contexts ctx c) n) ≡ Some job) same is in
      elim (get_set_here contexts ctx c) [
        | inl there ↦ inl (same, sym (ap plan_in there) ∙ here)
        | inr past ↦ let never : None ≡ Some job = sym (ap plan_in past) ∙ here in absurd (cc (never))
      ]
]

pub plan_from : (s : CoreState) (e : Event Draft) (k : ℕ) (job : Draft) → early_refusal s e ≡ None → plan_of (outcome_of_event s e).1 k ≡ Some job → ComesFrom s e k job
plan_from s e k job early is = by_event e early is
  where
    From : Event Draft → Answer × CoreState → Type 0
    From e p = plan_of p.1 k ≡ Some job → ComesFrom s e k job

    -- the plan of a context that was changed to one without a plan
    without : (e : Event Draft) (ctx : ℕ) (c : Option Context) → option_map_or (λ (c : Context). c.plan) c None ≡ None → ((b : ℕ) → k ≢ ctx → e ≡ event.Drop k b → ⊥)
        → plan_in (slice_get (set s.contexts ctx c) k) ≡ Some job → ComesFrom s e k job
    without e ctx c none stays is = elim (plan_cases s.contexts ctx k c job is) [
      | inl here ↦ let never : None ≡ Some job = sym none ∙ here.1 in absurd (cc (never))
      | inr there ↦ inl (there.1, λ b. stays b there.0)
    ]

    by_done : (ctx : ℕ) (o : Option Context) → context_of s ctx ≡ o
        → plan_of (option_map_or (λ (c : Context). with_context s ctx (Some (record c { is_sealed = true }))) o s) k ≡ Some job → ComesFrom s (event.Done ctx) k job
    by_done ctx None at is = inl (is, λ b e. absurd (cc (e)))
    by_done ctx (Some c) at is = elim (plan_cases s.contexts ctx k (Some (record c { is_sealed = true })) job is) [
      | inl here ↦ inl (ap (plan_of s) here.0 ∙ (ap (λ o. option_map_or (λ (c : Context). c.plan) o None) at ∙ here.1), λ b e. absurd (cc (e)))
      | inr there ↦ inl (there.1, λ b e. absurd (cc (e)))
    ]

    by_drop : (ctx c : ℕ) (o : Option Context) → context_of s ctx ≡ o → early_refusal s (event.Drop ctx c) ≡ None
        → plan_of (option_map_or (λ (x : Context). with_context (with_holder s c None) ctx (Some (record x { plan = None }))) o (with_holder s c None)) k ≡ Some job
        → ComesFrom s (event.Drop ctx c) k job
    by_drop ctx c None at early is =
        let idle : when (is_none (context_of s ctx)) CtxIdle ≡ None = (none_first (idle_refusal s ctx) (not_held_refusal s ctx c ∷ []) early).0 in
        let never : Some CtxIdle ≡ None = sym (ap (λ o. when (is_none o) CtxIdle) at) ∙ idle in absurd (cc (never))
    by_drop ctx c (Some x) at early is =
        without (event.Drop ctx c) ctx (Some (record x { plan = None })) refl (λ b apart e. let same : ctx ≡ k = cc (e) in apart (sym same)) is

    by_plan : (ctx : ℕ) (draft : Draft) (o : Option Context)
        → plan_of (option_map_or (λ (x : Context). with_context s ctx (Some (record x { is_sealed = true; plan = Some draft }))) o s) k ≡ Some job
        → ComesFrom s (event.Plan ctx draft) k job
    by_plan ctx draft None is = inl (is, λ b e. absurd (cc (e)))
    by_plan ctx draft (Some x) is = elim (plan_cases s.contexts ctx k (Some (record x { is_sealed = true; plan = Some draft })) job is) [
      | inl here ↦
          let same : draft ≡ job = cc (here.1) in
          inr (ap (λ n. event.Plan n draft) (sym here.0) ∙ ap (event.Plan k) same)
      | inr there ↦ inl (there.1, λ b e. absurd (cc (e)))
    ]

    by_arm : (ctx : ℕ) (o : Option Draft) → plan_of (option_map_or {U = Answer × CoreState}
        (λ job. (answer.Armed (length s.device.journal), context_changed (armed_core s job) ctx (λ c. record c { plan = None })))
        o
        (answer.Ok, s)).1 k ≡ Some job → ComesFrom s (event.Arm ctx) k job
    by_arm ctx None is = inl (is, λ b e. absurd (cc (e)))
    by_arm ctx (Some draft) is = spent (context_of s ctx) is
      where
        spent : (o : Option Context)
            → plan_of (option_map_or (λ (x : Context). with_context (armed_core s draft) ctx (Some (record x { plan = None }))) o (armed_core s draft)) k ≡ Some job
            → ComesFrom s (event.Arm ctx) k job
        spent None is = inl (is, λ b e. absurd (cc (e)))
        spent (Some x) is = without (event.Arm ctx) ctx (Some (record x { plan = None })) refl (λ b apart e. absurd (cc (e))) is

    by_event : (e : Event Draft) → early_refusal s e ≡ None → From e (outcome_of_event s e)
    by_event (event.Submit draft) early is = inl (is, λ b e. absurd (cc (e)))
    by_event (event.Begin ctx) early is = without (event.Begin ctx) ctx _ refl (λ b apart e. absurd (cc (e))) is
    by_event (event.Try ctx c) early is =
        at_option (From (event.Try ctx c)) _ (holder_of s c) (answer.Held, with_holder s c (Some ctx)) (λ is. inl (is, λ b e. absurd (cc (e))))
        (λ h. at_cond (From (event.Try ctx c)) (nat_lt (ticket_of s h) (ticket_of s ctx)) (answer.Older (ticket_of s h), s) (answer.Younger (ticket_of s h), s)
        (λ is. inl (is, λ b e. absurd (cc (e)))) (λ is. inl (is, λ b e. absurd (cc (e))))) is
    by_event (event.Done ctx) early is = by_done ctx (context_of s ctx) refl is
    by_event (event.Drop ctx c) early is = by_drop ctx c (context_of s ctx) refl early is
    by_event (event.End ctx) early is = without (event.End ctx) ctx None refl (λ b apart e. absurd (cc (e))) is
    by_event (event.Plan ctx draft) early is = by_plan ctx draft (context_of s ctx) is
    by_event (event.Arm ctx) early is = by_arm ctx (plan_of s ctx) is
    by_event (event.Pick ring now) early is = inl (is, λ b e. absurd (cc (e)))
    by_event (event.Step ring) early is = inl (is, λ b e. absurd (cc (e)))
    by_event (event.Finish ring now) early is = inl (is, λ b e. absurd (cc (e)))
    by_event (event.Timeout ring now) early is = inl (is, λ b e. absurd (cc (e)))
    by_event (event.Cancel j) early is = inl (is, λ b e. absurd (cc (e)))
    by_event (event.Reap j) early is = inl (is, λ b e. absurd (cc (e)))
    by_event (event.Read ctx c) early is = inl (is, λ b e. absurd (cc (e)))
    by_event (event.Status f) early is = inl (is, λ b e. absurd (cc (e)))
    by_event (event.Dump c) early is = inl (is, λ b e. absurd (cc (e)))

-- what is planned now is held
pub planned_held : (s : CoreState) (k : ℕ) (job : Draft) (b : ℕ) → early_refusal s (event.Plan k job) ≡ None → Contains (buffers_of job) b → holds s k b ≡ true
planned_held s k job b early has =
    let rest = (none_first (idle_refusal s k) (option_map Faulty (job_fault s.device.spec job) ∷ when (not (holds_all s k job)) NotAllHeld ∷ []) early).1 in
    let all = none_when (holds_all s k job) NotAllHeld
    (none_first (when (not (holds_all s k job)) NotAllHeld) [] (none_first (option_map Faulty (job_fault s.device.spec job)) (when (not (holds_all s k job)) NotAllHeld ∷ []) rest).1).0 in
    All-contains (λ x. holds s k x ≡ true) (buffers_of job) b (AllPass-from_list_all (holds s k) (buffers_of job) all) has

-- a step leaves the plans held
pub plans_stay_held : (s : CoreState) (e : Event Draft) (a : Answer) (n : CoreState) → PlansHeld s → Step s e a n → PlansHeld n
plans_stay_held s e a n held step = elim (cases_step s e a n step) [
  | inl refused ↦ subst PlansHeld (sym refused.keeps) held
  | inr had ↦ subst PlansHeld (sym had.leaves) (λ k job is b has. elim (plan_from s e k job had.early is) [
    | inl old ↦ holder_stays s e k b (held k job old.0 b has) had.early (old.1 b)
    | inr new ↦
        holder_stays s e k b (planned_held s k job b (subst (λ x. early_refusal s x ≡ None) new had.early) has) had.early
        (λ drops. let never : event.Plan k job ≡ event.Drop k b = sym new ∙ drops in absurd (cc (never)))
  ])
]

-- so they are after a run
pub run_plans_held : (s : CoreState) (events : List (Event Draft)) (answers : List Answer) (n : CoreState) → PlansHeld s → Run s events answers n → PlansHeld n
run_plans_held s [] [] n held run = subst PlansHeld (sym run) held
run_plans_held s [] (a ∷ rest) n held run = absurd run
run_plans_held s (e ∷ es) [] n held run = absurd run
run_plans_held s (e ∷ es) (a ∷ rest) n held run = run_plans_held run.0 es rest n (plans_stay_held s e a run.0 held run.1) run.2

pub opened_plans_held : (spec : DeviceSpec) → PlansHeld (opened spec)
opened_plans_held spec ctx job is = let none : None ≡ Some job = sym (no_plans 64 ctx) ∙ is in absurd (cc (none))

-- ---- the jobs of a journal

-- an event armed this job
pub record Arms (s : CoreState) (e : Event Draft) (n : CoreState) (job : Draft) : Type 0 where
  pub journal : n.device.journal ≡ s.device.journal ++ new_record s.device job ∷ []
  pub by_event : (e ≡ event.Submit job) ⊎ ((ctx : ℕ) × (e ≡ event.Arm ctx) × (plan_of s ctx ≡ Some job))

-- an event keeps the number of jobs, or arms one
abbrev pub CountsOn : CoreState → Event Draft → CoreState → Type 0
CountsOn s e n = (length n.device.journal ≡ length s.device.journal) ⊎ ((job : Draft) × Arms s e n job)

abbrev pub KeepsCount : DeviceState → Answer × DeviceState → Type 0
KeepsCount d p = length p.1.journal ≡ length d.journal

pub counts_on : (s : CoreState) (e : Event Draft) → CountsOn s e (outcome_of_event s e).1
counts_on s (event.Submit draft) = inr (draft, record { journal = refl; by_event = inl refl })
counts_on s (event.Begin ctx) = inl refl
counts_on s (event.Try ctx c) =
    at_option (λ (p : Answer × CoreState). CountsOn s (event.Try ctx c) p.1) _ (holder_of s c) (answer.Held, with_holder s c (Some ctx)) (inl refl)
    (λ h. at_cond (λ (p : Answer × CoreState). CountsOn s (event.Try ctx c) p.1) (nat_lt (ticket_of s h) (ticket_of s ctx))
    (answer.Older (ticket_of s h), s) (answer.Younger (ticket_of s h), s) (inl refl) (inl refl))
counts_on s (event.Done ctx) = at_option (CountsOn s (event.Done ctx)) _ (context_of s ctx) s (inl refl) (λ c. inl refl)
counts_on s (event.Drop ctx c) = at_option (CountsOn s (event.Drop ctx c)) _ (context_of s ctx) (with_holder s c None) (inl refl) (λ c. inl refl)
counts_on s (event.End ctx) = inl refl
counts_on s (event.Plan ctx draft) = at_option (CountsOn s (event.Plan ctx draft)) _ (context_of s ctx) s (inl refl) (λ c. inl refl)
counts_on s (event.Arm ctx) = by_plan (plan_of s ctx) refl
  where
    by_plan : (o : Option Draft) → plan_of s ctx ≡ o → CountsOn s (event.Arm ctx) (option_map_or {U = Answer × CoreState}
        (λ job. (answer.Armed (length s.device.journal), context_changed (armed_core s job) ctx (λ c. record c { plan = None })))
        o
        (answer.Ok, s)).1
    by_plan None is = inl refl
    by_plan (Some job) is = inr (
      job,
      record {
        journal = at_option (λ (n : CoreState). n.device.journal ≡ s.device.journal ++ new_record s.device job ∷ []) _ (context_of s ctx) (armed_core s job) refl (λ c. refl);
        by_event = inr (ctx, refl, is);
      },
    )
counts_on s (event.Pick ring now) =
    inl (at_any_record (KeepsCount s.device) s.device _ (answer.Ok, s.device) (choice s.device ring) refl (λ f r. changed_count s.device.journal f _))
counts_on s (event.Step ring) =
    inl (at_any_record (KeepsCount s.device) s.device _ (answer.Ok, s.device) (current_of s.device ring) refl
    (λ f r. at_option (KeepsCount s.device) (stepped_by s.device f) (slice_get r.job.packets r.ran) (answer.Ok, s.device) refl
    (λ p. at_cond (KeepsCount s.device) (is_at s.device.journal f (λ r. must_stall p r.karma.resets)) (answer.Stalled f, s.device)
    (answer.Ran f (option_map_or (λ r. r.ran) (slice_get s.device.journal f) 0), ran_device s.device f p) refl (changed_count s.device.journal f _))))
counts_on s (event.Finish ring now) =
    inl (at_any_record (KeepsCount s.device) s.device _ (answer.Ok, s.device) (head_of s.device ring) refl (λ f r. changed_count s.device.journal f _))
counts_on s (event.Timeout ring now) =
    inl (at_timeout (KeepsCount s.device) s.device ring now (λ a. refl) refl refl (λ f. changed_count s.device.journal f _)
    (λ f e. length-map _ _ ∙ changed_count s.device.journal f _))
counts_on s (event.Cancel k) = inl refl
counts_on s (event.Reap k) =
    inl (at_option (KeepsCount s.device) _ (first (queue_of k s.device.journal)) (answer.Ok, s.device) refl (λ n. changed_count s.device.journal n.0 _))
counts_on s (event.Read ctx c) = inl refl
counts_on s (event.Status f) = inl refl
counts_on s (event.Dump c) = inl refl

-- a writer of a buffer declares it
pub writer_declares : (job : Draft) (b : ℕ) → is_writer job b ≡ true → Contains (buffers_of job) b
writer_declares job b writer = by_usage (usage_at b job) refl writer
  where
    by_usage : (o : Option Usage) → usage_at b job ≡ o → option_map_or (λ usage. is_as_strong usage Write) o false ≡ true → Contains (buffers_of job) b
    by_usage None is strong = let never : false ≡ true = strong in cc (never)
    by_usage (Some u) is strong =
        let d = used_declared job b u is in
        contains_at (buffers_of job) d.0 b (to_map (λ (x : ℕ × Access). x.0) job.declared d.0 d.1 d.2 ∙ ap (λ x. Some x) d.3)

-- a job that was armed now does not write what the context may read
pub arms_no_writer : (s : CoreState) (e : Event Draft) (n : CoreState) (ctx b : ℕ) (job : Draft) → PlansHeld s → holds s ctx b ≡ true → early_refusal s e ≡ None
    → (GivesUp s ctx b e → ⊥) → Arms s e n job → is_writer job b ≡ true → ⊥
arms_no_writer s e n ctx b job plans held early keeps arms writer = elim (arms.by_event) [
  | inl submits ↦
      let fresh : early_refusal s (event.Submit job) ≡ None = subst (λ x. early_refusal s x ≡ None) submits early in
      let none : find (is_held s) (buffers_of job) ≡ None =
      none_held (find (is_held s) (buffers_of job))
      (none_first (option_map Held (find (is_held s) (buffers_of job))) [] (none_first (option_map Faulty (job_fault s.device.spec job)) _ fresh).1).0 in
      let place = place_of (buffers_of job) b (writer_declares job b writer) in
      both_ways (is_held s b) (each_fails (is_held s) (buffers_of job) place.0 b none place.1) (is_held_by (holder_of s b) ctx held)
  | inr planned ↦
      let same : planned.0 ≡ ctx = only_holder (holder_of s b) planned.0 ctx (plans planned.0 job planned.2 b (writer_declares job b writer)) held in
      keeps (inr (planned.1 ∙ ap event.Arm same, (job, ap (plan_of s) (sym same) ∙ planned.2, writer)))
]
  where
    none_held : (o : Option ℕ) → option_map Held o ≡ None → o ≡ None
    none_held None e = refl
    none_held (Some f) e = absurd (cc (e))

-- what a context may read it may read after an event with which it does not give it up
pub may_read_on : (s : CoreState) (e : Event Draft) (a : Answer) (n : CoreState) (ctx b : ℕ) → PlansHeld s → EachInPlace RecordGrows s.device.journal n.device.journal
    → Step s e a n → MayRead s ctx b → (GivesUp s ctx b e → ⊥) → MayRead n ctx b
may_read_on s e a n ctx b plans grows step may keeps = elim (cases_step s e a n step) [
  | inl refused ↦ subst (λ m. MayRead m ctx b) (sym refused.keeps) may
  | inr had ↦ record {
    holds = subst (λ m. holds m ctx b ≡ true) (sym had.leaves) (holder_stays s e ctx b may.holds had.early (λ drops. keeps (inl drops)));
    writers = λ f r at writer. elim (subst (CountsOn s e) (sym had.leaves) (counts_on s e)) [
      | inl count ↦ was_there f r at writer (subst (λ k. f < k) count (slice_get_within n.device.journal f r at))
      | inr armed ↦
          elim (get_push_cases s.device.journal (new_record s.device armed.0) f r (subst (λ js. slice_get js f ≡ Some r) armed.1.journal at)) [
            | inl old ↦ was_there f r at writer (slice_get_within s.device.journal f r old)
            | inr it ↦
                absurd (arms_no_writer s e n ctx b armed.0 plans may.holds had.early keeps armed.1
                (subst (λ (x : JobRecord). is_writer x.job b ≡ true) it.1 writer))
          ]
    ];
  }
]
  where
    was_there : (f : ℕ) (r : JobRecord) → slice_get n.device.journal f ≡ Some r → is_writer r.job b ≡ true → f < length s.device.journal → has_ended r.phase ≡ true
    was_there f r at writer within =
        let old = stands_within s.device.journal f within in
        let grown = grows f old.0 old.1 in
        let same : grown.0 ≡ r = cc (grown.1, at) in
        let job : r.job ≡ old.0.job = ap (λ (x : JobRecord). x.job) (sym same) ∙ grown.2.job in
        let ended = may.writers f old.0 old.1 (subst (λ j. is_writer j b ≡ true) job writer) in
        let phase : r.phase ≡ old.0.phase = ap (λ (x : JobRecord). x.phase) (sym same) ∙ ended_stays old.0.phase grown.0.phase grown.2.phase ended in
        ap has_ended phase ∙ ended
