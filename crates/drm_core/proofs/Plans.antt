-- A context that plans a job, and a plan that is armed.
use Rattle.std.proofs.Common.{◌≡◌, ◌≢◌, ℕ, ◌<◌, Bool, true, false, not, List, [], ◌∷◌, length, map, Some, None, Option, Result, Ok, Err, refl, sym, ap, subst, ◌∙◌, inl, inr, slice_get, get_or}
use Rattle.std.specs.Global.{Box}
use Rattle.std.specs.Prelude.{◌==◌, option_map, is_none, is_err, OnOk}
use Rattle.std.specs.List.{list_all}
use Rattle.std.specs.Option.{option_map_or}
use Rattle.std.specs.Vec.{with_item}
use Rattle.std.proofs.lemmas.Bool.{both_ways, eqb-true, ne_eqb}
use Rattle.std.proofs.lemmas.List.{length-set}
use Rattle.drm_types.specs.Firsts.{when, first_of}
use Rattle.drm_types.specs.declared.access.Access.{Access}
use Rattle.drm_job.specs.declared.Draft.{Draft}
use Rattle.drm_job.specs.Fault.{job_fault, IsJob, buffers_of}
use Rattle.drm_types.proofs.Firsts.{first_of_one}
use Rattle.drm_state.specs.declared.answer.Answer.{Answer}
use Rattle.drm_state.specs.declared.answer.Answer.TheVariants as answer
use Rattle.drm_core.specs.declared.event.Event.TheVariants as event
use Rattle.drm_state.specs.declared.answer.Refusal.TheVariants as refusal
use Rattle.drm_state.specs.declared.plans.Plan.{Plan}
use Rattle.drm_core.specs.declared.cores.ContextRow.{ContextRow}
use Rattle.drm_core.specs.declared.cores.CoreTable.{CoreTable}
use Rattle.drm_core.specs.State.{Context, CoreState}
use Rattle.drm_core.specs.Context.{context_of, holder_of, holds, holds_all, with_context}
use Rattle.drm_core.specs.Claims.{without_plan}
use Rattle.drm_state.specs.Refusals.{arm_refusal}
use Rattle.drm_core.specs.Refusals.{early_refusal, plan_of}
use Rattle.drm_core.specs.Outcomes.{armed_core, context_changed}
use Rattle.drm_core.specs.Step.{Step, reply}
use Rattle.drm_core.specs.Cores.{core_state, planned_by, PlanStands, IsCore}
use Rattle.drm_state.specs.Plans.{DepsCover}
use Rattle.drm_core.specs.Planning.{holds_in, AreRoomy, ShareNoBuffer}
use Rattle.drm_lists.proofs.Places.{to_map, at_index}
use Rattle.drm_lists.proofs.Searches.{all_at}
use Rattle.drm_core.proofs.Locks.{plan_of_row, plan_cases, reply_is, row_changed, planned_job, steady_still}

-- the row of a context that an index found
row_there : (c : CoreTable) (ctx : ℕ) (row : Option ContextRow) → IsCore c → ctx < 64 → row ≡ get_or c.contexts.items ctx row → slice_get c.contexts.items ctx ≡ Some row
row_there c ctx row core there is = at_index c.contexts.items ctx row is (subst (λ n. ctx < n) (sym core.context_count) there)

-- what one context holds, no other one does
other_holder : (o : Option ℕ) (ctx k : ℕ) → k ≢ ctx → option_map_or (λ h. h == ctx) o false ≡ true → option_map_or (λ h. h == k) o false ≡ false
other_holder None ctx k apart held = refl
other_holder (Some h) ctx k apart held = let same = eqb-true h ctx held in ne_eqb h k (λ e. apart (sym e ∙ same))

-- ---- a job is planned

-- what a planning tests before it takes memory
pub plan_early : (s : CoreState) (ctx : ℕ) (draft : Draft) (b : Bool) → is_none (context_of s ctx) ≡ false → job_fault s.device.spec draft ≡ None → holds_all s ctx draft ≡ b
    → early_refusal s (event.Plan ctx draft) ≡ when (not b) refusal.NotAllHeld
plan_early s ctx draft b begun none held =
    ap (λ x. first_of (when x refusal.CtxIdle ∷ option_map refusal.Faulty (job_fault s.device.spec draft) ∷ when (not (holds_all s ctx draft)) refusal.NotAllHeld ∷ [])) begun
    ∙ (ap (λ f. first_of (None ∷ option_map refusal.Faulty f ∷ when (not (holds_all s ctx draft)) refusal.NotAllHeld ∷ [])) none
    ∙ (ap (λ h. first_of (None ∷ None ∷ when (not h) refusal.NotAllHeld ∷ [])) held ∙ first_of_one (when (not b) refusal.NotAllHeld)))

-- the context holds all that the job declares, where its look along the holders says so
pub held_all : (c : CoreTable) (ctx : ℕ) (draft job : Draft) (holders : List (Option ℕ)) (declared : List (ℕ × Access)) (b : Bool) → b ≡ list_all (holds_in holders ctx) (map (λ d. d.0) declared)
    → holders ≡ c.holders.items → declared ≡ job.declared → job ≡ draft → holds_all (core_state c) ctx draft ≡ b
held_all c ctx draft job holders declared b is same_holders same_declared same =
    sym (is ∙ (ap (λ hs. list_all (holds_in hs ctx) (map (λ d. d.0) declared)) same_holders
    ∙ (ap (λ ds. list_all (holds_in c.holders.items ctx) (map (λ d. d.0) ds)) same_declared
    ∙ ap (λ j. holds_all (core_state c) ctx j) same)))

-- what is ensured where a call went well
pub went_well : {T E P : Type 0} (result : Result T E) (b : Bool) → b ≡ is_err result → b ≡ false → OnOk result P → P
went_well (Ok x) b is fine p = p
went_well (Err e) b is fine p = absurd (let never : false ≡ true = sym fine ∙ is in cc (never))

-- the row of a context that has planned this
abbrev pub with_plan : Box Plan → ContextRow → ContextRow
with_plan boxed row = record row { is_sealed = true; plan = Some boxed }

-- a plan stands, and those of the other contexts go on to stand
pub plan_done : (s : CoreState) (c : CoreTable) (ctx : ℕ) (draft : Draft) (boxed : Box Plan) (row new : Option ContextRow) → IsCore c → core_state c ≡ s → ctx < 64
    → boxed.value.job ≡ draft → is_none (context_of s ctx) ≡ false → job_fault s.device.spec draft ≡ None → holds_all s ctx draft ≡ true
    → DepsCover c.device.state boxed.value.job boxed.value.deps → AreRoomy boxed.value.job c.reservations.items
    → row ≡ get_or c.contexts.items ctx row → new ≡ option_map (with_plan boxed) row
    → Step s (event.Plan ctx draft) answer.Planned (core_state (record c { contexts = with_item c.contexts ctx new })) × IsCore (record c { contexts = with_item c.contexts ctx new })
plan_done s c ctx draft boxed row new core same there job begun none held covers roomy row_is new_is =
    subst (λ r. Step s (event.Plan ctx draft) answer.Planned (core_state (record c { contexts = with_item c.contexts ctx r })) × IsCore (record c { contexts = with_item c.contexts ctx r })) (sym new_is) (
      subst (λ z. Step z (event.Plan ctx draft) answer.Planned (core_state planned)) same (inl (sym replies)),
      record {
        steady = steady_still c planned core refl refl (λ k other at.
            elim (plan_cases c.contexts.items ctx k (option_map (with_plan boxed) row) other at) [
              | inl here ↦ subst (λ (p : Plan). IsJob c.device.state.spec p.job) (the_plan row other here.1) is_job
              | inr past ↦ core.steady.plans k other.job (planned_job c k ∙ ap (option_map (λ (p : Plan). p.job)) past.1)
            ]);
        limits = core.limits;
        inside = core.inside;
        plans = λ k other at.
            elim (plan_cases c.contexts.items ctx k (option_map (with_plan boxed) row) other at) [
              | inl here ↦ subst (λ n. PlanStands planned n other) (sym here.0) (subst (PlanStands planned ctx) (the_plan row other here.1) stands)
              | inr past ↦
                  let old = core.plans k other past.1 in
                  record { covers = old.covers; holds = old.holds; room = old.room }
            ];
        reservation_count = core.reservation_count;
        holder_count = core.holder_count;
        context_count = length-set c.contexts.items ctx (option_map (with_plan boxed) row) ∙ core.context_count;
        tickets = core.tickets;
      },
    )
  where
    planned : CoreTable
    planned = record c { contexts = with_item c.contexts ctx (option_map (with_plan boxed) row) }

    is_job : IsJob c.device.state.spec boxed.value.job
    is_job = subst (λ (z : CoreState). IsJob z.device.spec boxed.value.job) (sym same) (subst (IsJob s.device.spec) (sym job) none)

    begun_here : is_none (context_of (core_state c) ctx) ≡ false
    begun_here = subst (λ z. is_none (context_of z ctx) ≡ false) (sym same) begun

    held_here : holds_all (core_state c) ctx draft ≡ true
    held_here = subst (λ z. holds_all z ctx draft ≡ true) (sym same) held

    replies : reply (core_state c) (event.Plan ctx draft) ≡ (answer.Planned, core_state planned)
    replies =
        reply_is (core_state c) (event.Plan ctx draft)
        (plan_early (core_state c) ctx draft true begun_here (subst (λ (z : CoreState). job_fault z.device.spec draft ≡ None) (sym same) none) held_here) refl
        ∙ ap (λ z. (answer.Planned, z)) (row_changed c ctx row (with_plan boxed) (λ x. record x { is_sealed = true; plan = Some draft })
        (row_there c ctx row core there row_is) (λ r. ap (λ j. let x : Context = record { ticket = r.ticket; is_sealed = true; plan = Some j } in x) job) begun_here)

    the_plan : (r : Option ContextRow) (other : Plan) → plan_of_row (option_map (with_plan boxed) r) ≡ Some other → boxed.value ≡ other
    the_plan None other is = absurd (let never : None ≡ Some other = is in cc (never))
    the_plan (Some r) other is = let it : Some boxed.value ≡ Some other = is in cc (it)

    stands : PlanStands planned ctx boxed.value
    stands = record {
      covers = covers;
      holds = subst (λ j. holds_all (core_state c) ctx j ≡ true) (sym job) held_here;
      room = λ b r at used. roomy b r used.0 at used.1;
    }

-- the same of a plan that was put into a box
pub plan_boxed : (s : CoreState) (c : CoreTable) (ctx : ℕ) (draft : Draft) (plan : Plan) (boxed : Box Plan) (row new : Option ContextRow) → boxed.value ≡ plan → IsCore c → core_state c ≡ s → ctx < 64
    → plan.job ≡ draft → is_none (context_of s ctx) ≡ false → job_fault s.device.spec draft ≡ None → holds_all s ctx draft ≡ true
    → DepsCover c.device.state plan.job plan.deps → AreRoomy plan.job c.reservations.items
    → row ≡ get_or c.contexts.items ctx row → new ≡ option_map (with_plan boxed) row
    → Step s (event.Plan ctx draft) answer.Planned (core_state (record c { contexts = with_item c.contexts ctx new })) × IsCore (record c { contexts = with_item c.contexts ctx new })
plan_boxed s c ctx draft plan boxed row new is core same there job begun none held covers roomy row_is new_is =
    plan_done s c ctx draft boxed row new core same there (ap (λ (p : Plan). p.job) is ∙ job) begun none held
    (subst (λ (p : Plan). DepsCover c.device.state p.job p.deps) (sym is) covers)
    (subst (λ (p : Plan). AreRoomy p.job c.reservations.items) (sym is) roomy) row_is new_is

-- ---- a plan is armed

-- the plan of a row that an index found
pub planned_there : (c : CoreTable) (ctx : ℕ) (row : Option ContextRow) (plan : Option Plan) → IsCore c → ctx < 64 → row ≡ get_or c.contexts.items ctx row → plan_of_row row ≡ plan → planned_by c ctx ≡ plan
planned_there c ctx row plan core there row_is is = ap (λ o. option_map_or plan_of_row o None) (row_there c ctx row core there row_is) ∙ is

-- what an arming tests, where there is a plan
pub arm_early : (s : CoreState) (ctx : ℕ) (job : Draft) → plan_of s ctx ≡ Some job
    → (is_none (context_of s ctx) ≡ false) × (early_refusal s (event.Arm ctx) ≡ arm_refusal s.device job)
arm_early s ctx job is =
    let begun : is_none (context_of s ctx) ≡ false = there (context_of s ctx) is in (
      begun,
      ap (λ b. first_of (when b refusal.CtxIdle ∷ when (is_none (plan_of s ctx)) refusal.NotPlanned ∷ option_map_or (arm_refusal s.device) (plan_of s ctx) None ∷ [])) begun
          ∙ (ap (λ o. first_of (None ∷ when (is_none o) refusal.NotPlanned ∷ option_map_or (arm_refusal s.device) o None ∷ [])) is
          ∙ first_of_one (arm_refusal s.device job)),
    )
  where
    there : (o : Option Context) → option_map_or (λ (x : Context). x.plan) o None ≡ Some job → is_none o ≡ false
    there None none = absurd (let never : None ≡ Some job = none in cc (never))
    there (Some x) some = refl

-- where there is no plan, an arming is refused
pub arm_unplanned : (c : CoreTable) (ctx : ℕ) (row : Option ContextRow) → IsCore c → ctx < 64 → row ≡ get_or c.contexts.items ctx row → plan_of_row row ≡ None
    → early_refusal (core_state c) (event.Arm ctx) ≡ None → ⊥
arm_unplanned c ctx row core there row_is none early =
    refused (is_none (context_of (core_state c) ctx))
    (sym (ap (λ o. first_of (when (is_none (context_of (core_state c) ctx)) refusal.CtxIdle ∷ when (is_none o) refusal.NotPlanned ∷ option_map_or (arm_refusal c.device.state) o None ∷ []))
    (planned_job c ctx ∙ ap (option_map (λ (p : Plan). p.job)) (planned_there c ctx row None core there row_is none))) ∙ early)
  where
    refused : (b : Bool) → first_of (when b refusal.CtxIdle ∷ Some refusal.NotPlanned ∷ None ∷ []) ≡ None → ⊥
    refused true is = let never : Some refusal.CtxIdle ≡ None = is in cc (never)
    refused false is = let never : Some refusal.NotPlanned ≡ None = is in cc (never)

-- what holds of a plan that is armed, and of the core from which it was taken
pub record MayArm (c n : CoreTable) (ctx : ℕ) (plan : Plan) : Type 0 where
  pub job : IsJob c.device.state.spec plan.job
  pub covers : DepsCover c.device.state plan.job plan.deps
  pub may : arm_refusal c.device.state plan.job ≡ None
  pub roomy : AreRoomy plan.job c.reservations.items
  pub apart : (k : ℕ) (other : Plan) → planned_by n k ≡ Some other → ShareNoBuffer plan.job other.job
  pub core : IsCore n
  pub replies : reply (core_state c) (event.Arm ctx) ≡ (answer.Armed (length c.device.state.journal), armed_core (core_state n) plan.job)

-- plans of two contexts share no buffer: each holds all of its own
pub plans_apart : (c : CoreTable) (ctx k : ℕ) (plan other : Plan) → IsCore c → planned_by c ctx ≡ Some plan → planned_by c k ≡ Some other → k ≢ ctx → ShareNoBuffer plan.job other.job
plans_apart c ctx k plan other core here there differ i j d e at_d at_e same =
    let s = core_state c in
    let held = all_at (holds s ctx) (buffers_of plan.job) i d.0 (core.plans ctx plan here).holds (to_map (λ (x : ℕ × Access). x.0) plan.job.declared i d at_d) in
    let held_too = all_at (holds s k) (buffers_of other.job) j e.0 (core.plans k other there).holds (to_map (λ (x : ℕ × Access). x.0) other.job.declared j e at_e) in
    both_ways (holds s k d.0) (other_holder (holder_of s d.0) ctx k differ held) (subst (λ b. holds s k b ≡ true) (sym same) held_too)

-- the plan is taken out of its row, and may be armed
pub plan_taken : (c : CoreTable) (ctx : ℕ) (plan : Plan) (row new : Option ContextRow) → IsCore c → ctx < 64 → early_refusal (core_state c) (event.Arm ctx) ≡ None
    → row ≡ get_or c.contexts.items ctx row → plan_of_row row ≡ Some plan → new ≡ option_map without_plan row
    → MayArm c (record c { contexts = with_item c.contexts ctx new }) ctx plan
plan_taken c ctx plan row new core there early row_is is new_is =
    subst (λ r. MayArm c (record c { contexts = with_item c.contexts ctx r }) ctx plan) (sym new_is) (record {
      job = core.steady.plans ctx plan.job job_is;
      covers = stands.covers;
      may = sym tests.1 ∙ early;
      roomy = λ k r usage at used. stands.room k r at (usage, used);
      apart = λ k other at. let old = still k other at in plans_apart c ctx k plan other core planned old.1 old.0;
      core = record {
        steady = record {
          device = core.steady.device;
          plans = λ k job at. steady_plan k job at;
          reservations = core.steady.reservations;
        };
        limits = core.limits;
        inside = core.inside;
        plans = λ k other at.
            let old = core.plans k other (still k other at).1 in
            record { covers = old.covers; holds = old.holds; room = old.room };
        reservation_count = core.reservation_count;
        holder_count = core.holder_count;
        context_count = length-set c.contexts.items ctx (option_map without_plan row) ∙ core.context_count;
        tickets = core.tickets;
      };
      replies = reply_is (core_state c) (event.Arm ctx) early refl
          ∙ (ap (λ o. option_map_or {U = Answer × CoreState}
          (λ job. (answer.Armed (length c.device.state.journal), context_changed (armed_core (core_state c) job) ctx (λ x. record x { plan = None }))) o (answer.Ok, core_state c)) job_is
          ∙ ap (λ z. (answer.Armed (length c.device.state.journal), z)) (either_order (core_state c) (context_of (core_state c) ctx)
          ∙ ap (λ z. armed_core z plan.job) (row_changed c ctx row without_plan (λ x. record x { plan = None }) (row_there c ctx row core there row_is) (λ r. refl) tests.0)));
    })
  where
    left : CoreTable
    left = record c { contexts = with_item c.contexts ctx (option_map without_plan row) }

    planned : planned_by c ctx ≡ Some plan
    planned = planned_there c ctx row (Some plan) core there row_is is

    stands : PlanStands c ctx plan
    stands = core.plans ctx plan planned

    job_is : plan_of (core_state c) ctx ≡ Some plan.job
    job_is = planned_job c ctx ∙ ap (option_map (λ (p : Plan). p.job)) planned

    tests : (is_none (context_of (core_state c) ctx) ≡ false) × (early_refusal (core_state c) (event.Arm ctx) ≡ arm_refusal c.device.state plan.job)
    tests = arm_early (core_state c) ctx plan.job job_is

    no_plan : (r : Option ContextRow) → plan_of_row (option_map without_plan r) ≡ None
    no_plan None = refl
    no_plan (Some r) = refl

    still : (k : ℕ) (other : Plan) → planned_by left k ≡ Some other → (k ≢ ctx) × (planned_by c k ≡ Some other)
    still k other at =
        elim (plan_cases c.contexts.items ctx k (option_map without_plan row) other at) [
          | inl here ↦ absurd (let never : None ≡ Some other = sym (no_plan row) ∙ here.1 in cc (never))
          | inr past ↦ past
        ]

    steady_plan : (k : ℕ) (job : Draft) → plan_of (core_state left) k ≡ Some job → IsJob c.device.state.spec job
    steady_plan k job at = of_plan (planned_by left k) refl (sym (planned_job left k) ∙ at)
      where
        of_plan : (o : Option Plan) → planned_by left k ≡ o → option_map (λ (p : Plan). p.job) o ≡ Some job → IsJob c.device.state.spec job
        of_plan None at none = absurd (let never : None ≡ Some job = none in cc (never))
        of_plan (Some p) at some =
            let same : Some p.job ≡ Some job = some in
            core.steady.plans k job (planned_job c k ∙ (ap (option_map (λ (p : Plan). p.job)) (still k p at).1 ∙ same))

    either_order : (s : CoreState) (o : Option Context)
        → option_map_or (λ (x : Context). with_context (armed_core s plan.job) ctx (Some (record x { plan = None }))) o (armed_core s plan.job)
        ≡ armed_core (option_map_or (λ (x : Context). with_context s ctx (Some (record x { plan = None }))) o s) plan.job
    either_order s None = refl
    either_order s (Some x) = refl
