-- A core whose contexts or holders change.
use Rattle.std.proofs.Common.{◌≡◌, ◌≢◌, ℕ, zero, suc, ◌+◌, ◌<◌, ◌≤◌, Bool, true, false, not, cond, List, [], ◌∷◌, set, length, map, Some, None, Option, refl, sym, ap, subst, ◌∙◌, inl, inr, ◌⊎◌, arith, slice_get}
use Rattle.std.specs.Prelude.{◌&&◌, ◌==◌, ◌^◌, IsTrue, find, position, option_map, option_and_then, is_some, is_none, nat_lt}
use Rattle.std.specs.Option.{option_map_or}
use Rattle.std.specs.List.{enumerate_from, position_from, list_all}
use Rattle.std.proofs.lemmas.Bool.{cases_eq, and_parts, ne_eqb}
use Rattle.std.proofs.lemmas.Iterator.Adapters.{position_from-zero}
use Rattle.drm_types.specs.Firsts.{when, first_of}
use Rattle.drm_job.specs.declared.Draft.{Draft}
use Rattle.drm_job.specs.Fault.{IsJob, buffers_of}
use Rattle.drm_resv.specs.Reservation.{WithRoom}
use Rattle.drm_core.specs.Refusals.{plan_of}
use Rattle.drm_state.specs.declared.answer.Answer.{Answer}
use Rattle.drm_core.specs.declared.event.Event.{Event}
use Rattle.drm_core.specs.declared.event.Event.TheVariants as event
use Rattle.drm_state.specs.declared.plans.Plan.{Plan}
use Rattle.drm_core.specs.declared.cores.ContextRow.{ContextRow}
use Rattle.drm_core.specs.declared.cores.CoreTable.{CoreTable}
use Rattle.drm_types.specs.Limits.{spec_fault}
use Rattle.drm_sched.specs.Marks.{MarkedDevice}
use Rattle.drm_core.specs.State.{CoreState}
use Rattle.drm_core.specs.Context.{holds, holds_all}
use Rattle.drm_core.specs.Refusals.{early_refusal, late_refusal}
use Rattle.drm_core.specs.Outcomes.{outcome_of_event}
use Rattle.drm_core.specs.Step.{unless_refused, reply}
use Rattle.drm_core.specs.Steady.{IsSteadyCore}
use Rattle.drm_core.specs.Cores.{core_state, planned_by, planned_in, IsCore, NothingOut}
use Rattle.drm_state.specs.Plans.{DepsCover}
use Rattle.drm_core.proofs.CoreSteps.{contexts_kept}
use Rattle.drm_lists.proofs.Changed.{get_set_other}
use Rattle.drm_lists.proofs.Places.{to_map, at_index}
use Rattle.std.proofs.lemmas.Bool.{eqb-true}
use Rattle.std.proofs.Common.{get_or}
use Rattle.std.proofs.lemmas.List.{map-set, length-set}
use Rattle.drm_state.specs.declared.answer.Answer.TheVariants as answer
use Rattle.drm_state.specs.declared.answer.Refusal.TheVariants as refusal
use Rattle.drm_core.specs.State.{Context}
use Rattle.drm_core.specs.Claims.{claimed_of, with_seal, without_plan}
use Rattle.drm_core.specs.Cores.{context_of_row}
use Rattle.drm_core.specs.Context.{context_of, holder_of, ticket_of, with_holder, least_held}
use Rattle.drm_core.specs.Outcomes.{context_changed}
use Rattle.std.specs.Vec.{with_item}

-- the number of the first that is found is its place
find_numbered : {X : Type 0} (p : X → Bool) (n : ℕ) (xs : List X) → option_map (λ (e : ℕ × X). e.0) (find (λ (e : ℕ × X). p e.1) (enumerate_from n xs)) ≡ position_from p n xs
find_numbered p n [] = refl
find_numbered {X} p n (x ∷ xs) =
    elim (p x) as (λ b. option_map (λ (e : ℕ × X). e.0) (cond b (Some (n, x)) (find (λ (e : ℕ × X). p e.1) (enumerate_from (n + 1) xs)))
    ≡ cond b (Some n) (position_from p (n + 1) xs)) [
      | true ↦ refl
      | false ↦ find_numbered p (n + 1) xs
    ]

-- the first buffer that a context holds, among these holders
abbrev pub held_first : List (Option ℕ) → ℕ → Option ℕ
held_first holders ctx = option_map (λ (e : ℕ × Option ℕ). e.0) (find (λ (e : ℕ × Option ℕ). option_map_or (λ h. h == ctx) e.1 false) (enumerate_from 0 holders))

-- it is found by a look along the holders
pub held_place : (holders : List (Option ℕ)) (ctx : ℕ)
    → position (λ (o : Option ℕ). option_map_or (λ h. h == ctx) o false) holders
    ≡ held_first holders ctx
held_place holders ctx =
    position_from-zero (λ (o : Option ℕ). option_map_or (λ h. h == ctx) o false) holders
    ∙ sym (find_numbered (λ (o : Option ℕ). option_map_or (λ h. h == ctx) o false) 0 holders)

-- an event that is not refused
pub reply_is : (s : CoreState) (e : Event Draft) → early_refusal s e ≡ None → late_refusal s e ≡ None → reply s e ≡ outcome_of_event s e
reply_is s e early late =
    ap (λ o. unless_refused (first_of (o ∷ late_refusal s e ∷ [])) s (outcome_of_event s e)) early
    ∙ ap (λ o. unless_refused (first_of (None ∷ o ∷ [])) s (outcome_of_event s e)) late

-- the plan of an entry of the contexts
abbrev pub plan_of_row : Option ContextRow → Option Plan
plan_of_row o = option_map_or planned_in o None

abbrev pub plan_in : List (Option ContextRow) → ℕ → Option Plan
plan_in contexts k = option_map_or plan_of_row (slice_get contexts k) None

-- the plans after one context changed
pub plan_cases : (cs : List (Option ContextRow)) (ctx k : ℕ) (row : Option ContextRow) (plan : Plan) → plan_in (set cs ctx row) k ≡ Some plan
    → ((k ≡ ctx) × (plan_of_row row ≡ Some plan)) ⊎ ((k ≢ ctx) × (plan_in cs k ≡ Some plan))
plan_cases [] ctx k row plan is = absurd (cc (is))
plan_cases (x ∷ xs) zero zero row plan is = inl (refl, is)
plan_cases (x ∷ xs) zero (suc k) row plan is = inr ((λ e. absurd (omega (arith, e))), is)
plan_cases (x ∷ xs) (suc ctx) zero row plan is = inr ((λ e. absurd (omega (arith, e))), is)
plan_cases (x ∷ xs) (suc ctx) (suc k) row plan is =
    elim (plan_cases xs ctx k row plan is) [
      | inl here ↦ inl (ap suc here.0, here.1)
      | inr there ↦ inr ((λ e. there.0 (omega (arith, e))), there.1)
    ]

-- the job that a context has planned is that of its row
pub planned_job : (c : CoreTable) (k : ℕ) → plan_of (core_state c) k ≡ option_map (λ (p : Plan). p.job) (planned_by c k)
planned_job c k = in_rows c.contexts.items k
  where
    in_rows : (cs : List (Option ContextRow)) (k : ℕ)
        → option_map_or (λ (x : Context). x.plan) (option_and_then (λ (o : Option Context). o) (slice_get (map (option_map context_of_row) cs) k)) None
        ≡ option_map (λ (p : Plan). p.job) (plan_in cs k)
    in_rows [] k = refl
    in_rows (None ∷ cs) zero = refl
    in_rows (Some row ∷ cs) zero = refl
    in_rows (row ∷ cs) (suc k) = in_rows cs k

-- the state stays steady where the device and the reservations are the same and each plan is a job
pub steady_still : (c n : CoreTable) → IsCore c → n.device ≡ c.device → n.reservations ≡ c.reservations
    → ((k : ℕ) (plan : Plan) → planned_by n k ≡ Some plan → IsJob c.device.state.spec plan.job) → IsSteadyCore (core_state n)
steady_still c n core device resvs jobs =
    (contexts_kept (core_state c) (core_state n) core.steady (ap (λ (d : MarkedDevice). d.state) device) (ap (λ rs. map (λ (r : WithRoom). r.kept) rs.items) resvs)
    (λ k job at. of_plan k job (planned_by n k) refl (sym (planned_job n k) ∙ at))).steady
  where
    of_plan : (k : ℕ) (job : Draft) (o : Option Plan) → planned_by n k ≡ o → option_map (λ (p : Plan). p.job) o ≡ Some job → IsJob c.device.state.spec job
    of_plan k job None at none = absurd (let never : None ≡ Some job = none in cc (never))
    of_plan k job (Some p) at some = let same : p.job ≡ job = cc (some) in subst (IsJob c.device.state.spec) same (jobs k p at)

-- a core with the same device and the same reservations
pub core_kept : (c n : CoreTable) → IsCore c → n.device ≡ c.device → n.reservations ≡ c.reservations
    → ((k : ℕ) (plan : Plan) → planned_by n k ≡ Some plan → (planned_by c k ≡ Some plan) × IsTrue (holds_all (core_state n) k plan.job))
    → length n.holders.items ≡ length c.holders.items → length n.contexts.items ≡ length c.contexts.items → n.next_ticket ≤ 2 ^ 63 → IsCore n
core_kept c n core device resvs plans holders contexts tickets = record {
  steady = steady_still c n core device resvs (λ k plan at. core.steady.plans k plan.job (planned_job c k ∙ ap (option_map (λ (p : Plan). p.job)) (plans k plan at).0));
  limits = subst (λ (d : MarkedDevice). spec_fault d.state.spec ≡ None) (sym device) core.limits;
  inside = subst NothingOut (sym device) core.inside;
  plans = λ k plan at.
      let kept = plans k plan at in
      let old = core.plans k plan kept.0 in
      record {
        covers = subst (λ (d : MarkedDevice). DepsCover d.state plan.job plan.deps) (sym device) old.covers;
        holds = kept.1;
        room = λ b r at_b uses. old.room b r (subst (λ rs. slice_get rs.items b ≡ Some r) resvs at_b) uses;
      };
  reservation_count = ap (λ rs. length rs.items) resvs ∙ (core.reservation_count ∙ ap (λ (d : MarkedDevice). length d.state.spec.buffers) (sym device));
  holder_count = holders ∙ (core.holder_count ∙ ap (λ (d : MarkedDevice). length d.state.spec.buffers) (sym device));
  context_count = contexts ∙ core.context_count;
  tickets = tickets;
}

-- a test that passes wherever another one does
all_too : (p q : ℕ → Bool) (xs : List ℕ) → ((x : ℕ) → p x ≡ true → q x ≡ true) → list_all p xs ≡ true → list_all q xs ≡ true
all_too p q [] step all = refl
all_too p q (x ∷ xs) step all =
    let parts = and_parts (p x) (list_all p xs) all in
    ap (λ b. b && list_all q xs) (step x parts.0) ∙ all_too p q xs step parts.1

-- a context holds what it held after another change than at its own buffers
pub holds_still : (s : CoreState) (buffer : ℕ) (h : Option ℕ) (k : ℕ) (job : Draft) → holds s k buffer ≡ false → holds_all s k job ≡ true
    → holds_all (record s { holders = set s.holders buffer h }) k job ≡ true
holds_still s buffer h k job not_held all =
    all_too (holds s k) (holds (record s { holders = set s.holders buffer h }) k) (buffers_of job) still all
  where
    still : (b : ℕ) → holds s k b ≡ true → holds (record s { holders = set s.holders buffer h }) k b ≡ true
    still b held =
        elim (cases_eq b buffer) [
          | inl same ↦ absurd (let never : false ≡ true = sym not_held ∙ (ap (holds s k) (sym same) ∙ held) in cc (never))
          | inr apart ↦ ap (λ o. option_map_or (λ h. h == k) (option_and_then (λ (o : Option ℕ). o) o) false) (get_set_other s.holders buffer b h apart) ∙ held
        ]

-- the context of a row
pub row_context : (c : CoreTable) (ctx : ℕ) (row : Option ContextRow) → slice_get c.contexts.items ctx ≡ Some row
    → context_of (core_state c) ctx ≡ option_map context_of_row row
row_context c ctx row at = ap (option_and_then (λ (o : Option Context). o)) (to_map (option_map context_of_row) c.contexts.items ctx row at)

-- a begun context whose row changes
pub row_changed : (c : CoreTable) (ctx : ℕ) (row : Option ContextRow) (change : ContextRow → ContextRow) (change' : Context → Context)
    → slice_get c.contexts.items ctx ≡ Some row → ((r : ContextRow) → context_of_row (change r) ≡ change' (context_of_row r))
    → is_none (context_of (core_state c) ctx) ≡ false
    → context_changed (core_state c) ctx change' ≡ core_state (record c { contexts = with_item c.contexts ctx (option_map change row) })
row_changed c ctx None change change' at same begun = absurd (let never : true ≡ false = sym (ap is_none (row_context c ctx None at)) ∙ begun in cc (never))
row_changed c ctx (Some r) change change' at same begun =
    ap (λ o. option_map_or (λ (x : Context). record (core_state c) { contexts = set (core_state c).contexts ctx (Some (change' x)) }) o (core_state c)) (row_context c ctx (Some r) at)
    ∙ (ap (λ x. record (core_state c) { contexts = set (core_state c).contexts ctx (Some x) }) (sym (same r))
    ∙ ap (λ cs. record (core_state c) { contexts = cs }) (sym (map-set (option_map context_of_row) c.contexts.items ctx (Some (change r)))))

-- a test that is not passed is failed
pub begun_is : (o : Option Context) (b : Bool) → b ≡ is_some o → b ≡ true → is_none o ≡ false
begun_is None b is passed = absurd (let never : false ≡ true = sym is ∙ passed in cc (never))
begun_is (Some x) b is passed = refl

-- a begin
pub begin_done : (c : CoreTable) (ctx : ℕ) → IsCore c → ctx < 64 → is_some (context_of (core_state c) ctx) ≡ false → (c.next_ticket ≡ 2 ^ 63 → ⊥)
    → (n : CoreTable) → n ≡ record c { contexts = with_item c.contexts ctx (Some (record { ticket = c.next_ticket; is_sealed = false; plan = None })); next_ticket = c.next_ticket + 1 }
    → (reply (core_state c) (event.Begin ctx) ≡ (answer.Ticket c.next_ticket, core_state n)) × IsCore n
begin_done c ctx core there idle more n n_is =
    subst (λ n. (reply (core_state c) (event.Begin ctx) ≡ (answer.Ticket c.next_ticket, core_state n)) × IsCore n) (sym n_is) (replies, kept)
  where
    row : Option ContextRow
    row = Some (record { ticket = c.next_ticket; is_sealed = false; plan = None })

    new : CoreTable
    new = record c { contexts = with_item c.contexts ctx row; next_ticket = c.next_ticket + 1 }

    replies : reply (core_state c) (event.Begin ctx) ≡ (answer.Ticket c.next_ticket, core_state new)
    replies =
        reply_is (core_state c) (event.Begin ctx)
        (ap (λ b. first_of (when b refusal.CtxBusy ∷ when (c.next_ticket == 2 ^ 63) refusal.TicketsOut ∷ [])) idle
        ∙ ap (λ b. first_of (None ∷ when b refusal.TicketsOut ∷ [])) (ne_eqb c.next_ticket (2 ^ 63) more)) refl
        ∙ ap (λ cs. (answer.Ticket c.next_ticket, record (core_state c) { contexts = cs; next_ticket = c.next_ticket + 1 })) (sym (map-set (option_map context_of_row) c.contexts.items ctx row))

    few : c.next_ticket + 1 ≤ 2 ^ 63
    few = let most = core.tickets in omega (arith, most, more)

    kept : IsCore new
    kept =
        core_kept c new core refl refl
        (λ k plan at.
        elim (plan_cases c.contexts.items ctx k row plan at) [
          | inl here ↦ absurd (let never : None ≡ Some plan = here.1 in cc (never))
          | inr past ↦ (past.1, (core.plans k plan past.1).holds)
        ]) refl (length-set c.contexts.items ctx row) few

-- what a context tells of its ticket and its seal
pub found_context : (o : Option Context) (p : ℕ × Bool) → option_map (λ (x : Context). (x.ticket, x.is_sealed)) o ≡ Some p
    → (is_none o ≡ false) × (option_map_or (λ (x : Context). x.is_sealed) o false ≡ p.1) × (option_map_or (λ (x : Context). x.ticket) o 0 ≡ p.0)
found_context None p is = absurd (cc (is))
found_context (Some x) p is = let same : (x.ticket, x.is_sealed) ≡ p = cc (is) in (refl, ap (λ (q : ℕ × Bool). q.1) same, ap (λ (q : ℕ × Bool). q.0) same)

-- a context that has begun, is not sealed and does not hold the reservation may claim it
may_claim : (s : CoreState) (ctx buffer : ℕ) (p : ℕ × Bool) → option_map (λ (x : Context). (x.ticket, x.is_sealed)) (context_of s ctx) ≡ Some p → p.1 ≡ false
    → holds s ctx buffer ≡ false → early_refusal s (event.Try ctx buffer) ≡ None
may_claim s ctx buffer p is unsealed not_held =
    let found = found_context (context_of s ctx) p is in
    ap (λ b. first_of (when b refusal.CtxIdle ∷ when (option_map_or (λ (x : Context). x.is_sealed) (context_of s ctx) false) refusal.Sealed ∷ when (holds s ctx buffer) refusal.Already ∷ [])) found.0
    ∙ (ap (λ b. first_of (None ∷ when b refusal.Sealed ∷ when (holds s ctx buffer) refusal.Already ∷ [])) (found.1 ∙ unsealed)
    ∙ ap (λ b. first_of (None ∷ None ∷ when b refusal.Already ∷ [])) not_held)

-- a claim of what another context holds
pub claim_told : (s : CoreState) (ctx buffer h : ℕ) (p : ℕ × Bool) → option_map (λ (x : Context). (x.ticket, x.is_sealed)) (context_of s ctx) ≡ Some p → p.1 ≡ false
    → holder_of s buffer ≡ Some h → (h ≡ ctx → ⊥) → reply s (event.Try ctx buffer) ≡ (claimed_of p.0 (ticket_of s h), s)
claim_told s ctx buffer h p is unsealed held apart =
    reply_is s (event.Try ctx buffer)
    (may_claim s ctx buffer p is unsealed (ap (λ o. option_map_or (λ h. h == ctx) o false) held ∙ ne_eqb h ctx apart)) refl
    ∙ (ap (λ o. option_map_or {U = Answer × CoreState}
    (λ h. cond {A = Answer × CoreState} (nat_lt (ticket_of s h) (ticket_of s ctx)) (answer.Older (ticket_of s h), s) (answer.Younger (ticket_of s h), s))
    o
    (answer.Held, with_holder s buffer (Some ctx))) held
    ∙ (told (nat_lt (ticket_of s h) (ticket_of s ctx)) (ticket_of s h)
    ∙ ap (λ t. (claimed_of t (ticket_of s h), s)) (found_context (context_of s ctx) p is).2))
  where
    told : (b : Bool) (t : ℕ) → cond {A = Answer × CoreState} b (answer.Older t, s) (answer.Younger t, s) ≡ (cond b (answer.Older t) (answer.Younger t), s)
    told true t = refl
    told false t = refl

-- a claim of what nobody holds
pub claim_kept : (c : CoreTable) (ctx buffer : ℕ) (p : ℕ × Bool) → IsCore c → ctx < 64 → buffer < length c.device.state.spec.buffers
    → option_map (λ (x : Context). (x.ticket, x.is_sealed)) (context_of (core_state c) ctx) ≡ Some p → p.1 ≡ false → holder_of (core_state c) buffer ≡ None
    → IsCore (record c { holders = with_item c.holders buffer (Some ctx) })
claim_kept c ctx buffer p core there here is unsealed free =
    core_kept c (record c { holders = with_item c.holders buffer (Some ctx) }) core refl refl
    (λ k plan at. (at, holds_still (core_state c) buffer (Some ctx) k plan.job (ap (λ o. option_map_or (λ h. h == k) o false) free) (core.plans k plan at).holds))
    (length-set c.holders.items buffer (Some ctx)) refl core.tickets

-- the row of a context that an index found
row_there : (c : CoreTable) (ctx : ℕ) (row : Option ContextRow) → IsCore c → ctx < 64 → row ≡ get_or c.contexts.items ctx row → slice_get c.contexts.items ctx ≡ Some row
row_there c ctx row core there is = at_index c.contexts.items ctx row is (subst (λ n. ctx < n) (sym core.context_count) there)

-- a seal
pub seal_done : (c : CoreTable) (ctx : ℕ) (p : ℕ × Bool) (row new : Option ContextRow) → IsCore c → ctx < 64
    → option_map (λ (x : Context). (x.ticket, x.is_sealed)) (context_of (core_state c) ctx) ≡ Some p → p.1 ≡ false
    → row ≡ get_or c.contexts.items ctx row → new ≡ option_map with_seal row
    → (reply (core_state c) (event.Done ctx) ≡ (answer.Ok, core_state (record c { contexts = with_item c.contexts ctx new }))) × IsCore (record c { contexts = with_item c.contexts ctx new })
seal_done c ctx p row new core there is unsealed row_is new_is =
    subst (λ r. (reply (core_state c) (event.Done ctx) ≡ (answer.Ok, core_state (record c { contexts = with_item c.contexts ctx r }))) × IsCore (record c { contexts = with_item c.contexts ctx r })) (sym new_is) (
      replies,
      core_kept c (record c { contexts = with_item c.contexts ctx (option_map with_seal row) }) core refl refl
          (λ k plan at.
          elim (plan_cases c.contexts.items ctx k (option_map with_seal row) plan at) [
            | inl here ↦
                let old : plan_in c.contexts.items ctx ≡ Some plan = ap (λ o. option_map_or plan_of_row o None) found ∙ (same_plan row ∙ here.1) in
                let old_k : plan_in c.contexts.items k ≡ Some plan = subst (λ n. plan_in c.contexts.items n ≡ Some plan) (sym here.0) old in
                (old_k, (core.plans k plan old_k).holds)
            | inr past ↦ (past.1, (core.plans k plan past.1).holds)
          ]) refl (length-set c.contexts.items ctx (option_map with_seal row)) core.tickets,
    )
  where
    found : slice_get c.contexts.items ctx ≡ Some row
    found = row_there c ctx row core there row_is

    same_plan : (r : Option ContextRow) → plan_of_row r ≡ plan_of_row (option_map with_seal r)
    same_plan None = refl
    same_plan (Some r) = refl

    replies : reply (core_state c) (event.Done ctx) ≡ (answer.Ok, core_state (record c { contexts = with_item c.contexts ctx (option_map with_seal row) }))
    replies =
        let begun = found_context (context_of (core_state c) ctx) p is in
        reply_is (core_state c) (event.Done ctx)
        (ap (λ b. first_of (when b refusal.CtxIdle ∷ when (option_map_or (λ (x : Context). x.is_sealed) (context_of (core_state c) ctx) false) refusal.Sealed ∷ [])) begun.0
        ∙ ap (λ b. first_of (None ∷ when b refusal.Sealed ∷ [])) (begun.1 ∙ unsealed)) refl
        ∙ ap (λ s. (answer.Ok, s)) (row_changed c ctx row with_seal (λ x. record x { is_sealed = true }) found (λ r. refl) begun.0)

-- what one context holds, no other one does
other_holder : (o : Option ℕ) (ctx k : ℕ) → k ≢ ctx → option_map_or (λ h. h == ctx) o false ≡ true → option_map_or (λ h. h == k) o false ≡ false
other_holder None ctx k apart held = refl
other_holder (Some h) ctx k apart held = let same = eqb-true h ctx held in ne_eqb h k (λ e. apart (sym e ∙ same))

-- a reservation is let go
pub drop_done : (c : CoreTable) (ctx buffer place : ℕ) (row new : Option ContextRow) → IsCore c → ctx < 64 → buffer < length c.device.state.spec.buffers
    → is_none (context_of (core_state c) ctx) ≡ false → holds (core_state c) ctx buffer ≡ true → place ≡ buffer
    → row ≡ get_or c.contexts.items ctx row → new ≡ option_map without_plan row
    → (reply (core_state c) (event.Drop ctx buffer) ≡ (answer.Ok, core_state (record c { holders = with_item c.holders place None; contexts = with_item c.contexts ctx new })))
    × IsCore (record c { holders = with_item c.holders place None; contexts = with_item c.contexts ctx new })
drop_done c ctx buffer place row new core there here begun held place_is row_is new_is =
    subst (λ b. (reply (core_state c) (event.Drop ctx buffer) ≡ (answer.Ok, core_state (record c { holders = with_item c.holders b None; contexts = with_item c.contexts ctx new })))
    × IsCore (record c { holders = with_item c.holders b None; contexts = with_item c.contexts ctx new })) (sym place_is)
    (subst (λ r. (reply (core_state c) (event.Drop ctx buffer) ≡ (answer.Ok, core_state (record c { holders = with_item c.holders buffer None; contexts = with_item c.contexts ctx r })))
    × IsCore (record c { holders = with_item c.holders buffer None; contexts = with_item c.contexts ctx r })) (sym new_is) (
      replies,
      core_kept c left core refl refl
          (λ k plan at.
          elim (plan_cases c.contexts.items ctx k (option_map without_plan row) plan at) [
            | inl same ↦ absurd (let never : None ≡ Some plan = sym (no_plan row) ∙ same.1 in cc (never))
            | inr past ↦ (past.1, holds_still (core_state c) buffer None k plan.job (other_holder (holder_of (core_state c) buffer) ctx k past.0 held) (core.plans k plan past.1).holds)
          ]) (length-set c.holders.items buffer None) (length-set c.contexts.items ctx (option_map without_plan row)) core.tickets,
    ))
  where
    left : CoreTable
    left = record c { holders = with_item c.holders buffer None; contexts = with_item c.contexts ctx (option_map without_plan row) }

    no_plan : (r : Option ContextRow) → plan_of_row (option_map without_plan r) ≡ None
    no_plan None = refl
    no_plan (Some r) = refl

    replies : reply (core_state c) (event.Drop ctx buffer) ≡ (answer.Ok, core_state left)
    replies =
        reply_is (core_state c) (event.Drop ctx buffer)
        (ap (λ b. first_of (when b refusal.CtxIdle ∷ when (not (holds (core_state c) ctx buffer)) (refusal.NotHeld buffer) ∷ [])) begun
        ∙ ap (λ b. first_of (None ∷ when (not b) (refusal.NotHeld buffer) ∷ [])) held) refl
        ∙ ap (λ s. (answer.Ok, s)) (row_changed (record c { holders = with_item c.holders buffer None }) ctx row without_plan (λ x. record x { plan = None })
        (row_there c ctx row core there row_is) (λ r. refl) begun)

-- an end
pub end_done : (c : CoreTable) (ctx : ℕ) → IsCore c → ctx < 64 → is_none (context_of (core_state c) ctx) ≡ false → least_held (core_state c) ctx ≡ None
    → (reply (core_state c) (event.End ctx) ≡ (answer.Ok, core_state (record c { contexts = with_item c.contexts ctx None }))) × IsCore (record c { contexts = with_item c.contexts ctx None })
end_done c ctx core there begun free = (
  replies,
  core_kept c (record c { contexts = with_item c.contexts ctx None }) core refl refl
      (λ k plan at.
      elim (plan_cases c.contexts.items ctx k None plan at) [
        | inl here ↦ absurd (let never : None ≡ Some plan = here.1 in cc (never))
        | inr past ↦ (past.1, (core.plans k plan past.1).holds)
      ]) refl (length-set c.contexts.items ctx None) core.tickets,
)
  where
    replies : reply (core_state c) (event.End ctx) ≡ (answer.Ok, core_state (record c { contexts = with_item c.contexts ctx None }))
    replies =
        reply_is (core_state c) (event.End ctx)
        (ap (λ b. first_of (when b refusal.CtxIdle ∷ option_map refusal.StillHolds (least_held (core_state c) ctx) ∷ [])) begun
        ∙ ap (λ o. first_of (None ∷ option_map refusal.StillHolds o ∷ [])) free) refl
        ∙ ap (λ cs. (answer.Ok, record (core_state c) { contexts = cs })) (sym (map-set (option_map context_of_row) c.contexts.items ctx None))
