-- A context that may read is not refused, but for want of memory.
use Rattle.std.proofs.Common.{◌≡◌, ℕ, zero, suc, ◌+◌, ◌<◌, Bool, true, false, cond, not, ◌==◌, List, [], ◌∷◌, map, set, Some, None, Option, refl, sym, ap, subst, ◌∙◌, inl, inr, ◌⊎◌, slice_get}
use Rattle.std.specs.Option.{option_map_or}
use Rattle.std.specs.Prelude.{option_and_then, option_map, nat_lt, length, is_some, is_none, find}
use Rattle.std.specs.List.{enumerate_from}
use Rattle.std.proofs.lemmas.Bool.{cases_eq, both_ways, eqb-true}
use Rattle.drm_types.specs.Firsts.{when, first_of}
use Rattle.drm_types.specs.declared.spec.DeviceSpec.{DeviceSpec}
use Rattle.drm_buffer.specs.Memory.{bytes_of}
use Rattle.drm_types.proofs.Firsts.{none_first}
use Rattle.drm_job.specs.declared.Draft.{Draft}
use Rattle.drm_state.specs.declared.answer.Answer.{Answer}
use Rattle.drm_state.specs.declared.answer.Answer.TheVariants as answer
use Rattle.drm_core.specs.declared.event.Event.{Event}
use Rattle.drm_core.specs.declared.event.Event.TheVariants as event
use Rattle.drm_state.specs.declared.answer.Refusal.TheVariants.{Busy, CtxIdle, Memory, NotHeld, StillHolds}
use Rattle.drm_core.specs.State.{Context, CoreState, opened}
use Rattle.drm_core.specs.Context.{context_of, holder_of, holds, least_held, ticket_of, with_holder}
use Rattle.drm_core.specs.Refusals.{plan_of, idle_refusal, not_held_refusal, early_refusal}
use Rattle.drm_state.specs.Refusals.{read_refusal}
use Rattle.drm_core.specs.Outcomes.{armed_core, context_changed, outcome_of_event}
use Rattle.drm_core.specs.Run.{Run}
use Rattle.drm_core.specs.Step.{unless_refused, Step}
use Rattle.drm_core.specs.Steady.{IsSteadyCore, begun_in, HoldersBegun}
use Rattle.drm_core.specs.Headline.{MayRead}
use Rattle.drm_lists.proofs.Changed.{get_set_other}
use Rattle.drm_core.proofs.HeadlineSteps.{cases_step, at_cond, at_option}
use Rattle.drm_core.proofs.HeadlineReads.{holds_in, get_set_here}
use Rattle.drm_core.specs.Laws.{DeviceLaws}

-- ---- who holds a buffer has begun

-- who has begun still has when a context is changed
pub begun_stays : (contexts : List (Option Context)) (ctx k : ℕ) (c : Context) → begun_in contexts k ≡ true → begun_in (set contexts ctx (Some c)) k ≡ true
begun_stays [] ctx k c begun = begun
begun_stays (x ∷ xs) zero zero c begun = refl
begun_stays (x ∷ xs) zero (suc k) c begun = begun
begun_stays (x ∷ xs) (suc ctx) zero c begun = begun
begun_stays (x ∷ xs) (suc ctx) (suc k) c begun = begun_stays xs ctx k c begun

pub begun_if_not_idle : (s : CoreState) (ctx : ℕ) → idle_refusal s ctx ≡ None → begun_in s.contexts ctx ≡ true
begun_if_not_idle s ctx is = by_context (context_of s ctx) is
  where
    by_context : (o : Option Context) → when (is_none o) CtxIdle ≡ None → is_some o ≡ true
    by_context None e = absurd (cc (e))
    by_context (Some c) e = refl

-- who holds a buffer after one got another holder: the new one, or who held it before
pub holder_from : (holders : List (Option ℕ)) (c : ℕ) (o : Option ℕ) (k b : ℕ) → holds_in (set holders c o) k b ≡ true
    → (option_map_or (λ h. h == k) o false ≡ true) ⊎ (holds_in holders k b ≡ true)
holder_from holders c o k b held = elim (cases_eq b c) [
  | inr apart ↦ inr (sym (ap (λ x. option_map_or (λ h. h == k) (option_and_then (λ (o : Option ℕ). o) x) false) (get_set_other holders c b o apart)) ∙ held)
  | inl same ↦
      let look : Option (Option ℕ) → Bool = λ x. option_map_or (λ h. h == k) (option_and_then (λ (o : Option ℕ). o) x) false in
      let here : look (slice_get (set holders c o) c) ≡ true = subst (λ n. look (slice_get (set holders c o) n) ≡ true) same held in
      elim (get_set_here holders c o) [
        | inl there ↦ inl (sym (ap look there) ∙ here)
        | inr past ↦ let never : false ≡ true = sym (ap look past) ∙ here in absurd (cc (never))
      ]
]

-- a context that holds nothing holds no buffer
pub none_held_at : (holders : List (Option ℕ)) (n ctx b : ℕ)
    → option_map (λ (x : ℕ × Option ℕ). x.0) (find (λ (x : ℕ × Option ℕ). option_map_or (λ h. h == ctx) x.1 false) (enumerate_from n holders)) ≡ None
    → holds_in holders ctx b ≡ true → ⊥
none_held_at [] n ctx b none held = let never : false ≡ true = held in cc (never)
none_held_at (o ∷ os) n ctx b none held = by_test (option_map_or (λ h. h == ctx) o false) refl none (none_held_at os (n + 1) ctx)
  where
    rest : Option (ℕ × Option ℕ)
    rest = find (λ (x : ℕ × Option ℕ). option_map_or (λ h. h == ctx) x.1 false) (enumerate_from (n + 1) os)

    by_place : (b : ℕ) → option_map_or (λ h. h == ctx) o false ≡ false → holds_in (o ∷ os) ctx b ≡ true → ((b : ℕ) → holds_in os ctx b ≡ true → ⊥) → ⊥
    by_place zero fails held others = both_ways (option_map_or (λ h. h == ctx) o false) fails held
    by_place (suc b) fails held others = others b held

    by_test : (t : Bool) → option_map_or (λ h. h == ctx) o false ≡ t → option_map (λ (x : ℕ × Option ℕ). x.0) (cond t (Some (n, o)) rest) ≡ None
        → ((b : ℕ) → option_map (λ (x : ℕ × Option ℕ). x.0) rest ≡ None → holds_in os ctx b ≡ true → ⊥) → ⊥
    by_test true is none others = cc (none)
    by_test false is none others = by_place b is held (λ b. others b none)

pub no_holder : (o : Option ℕ) → option_map StillHolds o ≡ None → o ≡ None
no_holder None e = refl
no_holder (Some b) e = absurd (cc (e))

-- an event that is not refused
pub outcome_begun : (s : CoreState) (e : Event Draft) → HoldersBegun s → early_refusal s e ≡ None → HoldersBegun (outcome_of_event s e).1
outcome_begun s (event.Submit draft) begun early = begun
outcome_begun s (event.Begin ctx) begun early = λ k b held. begun_stays s.contexts ctx k _ (begun k b held)
outcome_begun s (event.Try ctx c) begun early =
    let asks = begun_if_not_idle s ctx (none_first (idle_refusal s ctx) _ early).0 in
    at_option (λ (p : Answer × CoreState). HoldersBegun p.1) _ (holder_of s c) (answer.Held, with_holder s c (Some ctx))
    (λ k b held. elim (holder_from s.holders c (Some ctx) k b held) [
      | inl new ↦ subst (λ x. begun_in s.contexts x ≡ true) (eqb-true ctx k new) asks
      | inr old ↦ begun k b old
    ])
    (λ h. at_cond (λ (p : Answer × CoreState). HoldersBegun p.1) (nat_lt (ticket_of s h) (ticket_of s ctx))
    (answer.Older (ticket_of s h), s) (answer.Younger (ticket_of s h), s) begun begun)
outcome_begun s (event.Done ctx) begun early =
    at_option HoldersBegun _ (context_of s ctx) s begun (λ c k b held. begun_stays s.contexts ctx k _ (begun k b held))
outcome_begun s (event.Drop ctx c) begun early =
    let dropped : HoldersBegun (with_holder s c None) = λ k b held. elim (holder_from s.holders c None k b held) [
      | inl new ↦ let never : false ≡ true = new in absurd (cc (never))
      | inr old ↦ begun k b old
    ] in
    at_option HoldersBegun _ (context_of s ctx) (with_holder s c None) dropped (λ x k b held. begun_stays s.contexts ctx k _ (dropped k b held))
outcome_begun s (event.End ctx) begun early = λ k b held. elim (cases_eq k ctx) [
  | inl same ↦
      let none : least_held s ctx ≡ None =
      no_holder (least_held s ctx) (none_first (option_map StillHolds (least_held s ctx)) [] (none_first (idle_refusal s ctx) _ early).1).0 in
      absurd (none_held_at s.holders 0 ctx b none (subst (λ x. holds s x b ≡ true) same held))
  | inr apart ↦ ap (λ x. is_some (option_and_then (λ (o : Option Context). o) x)) (get_set_other s.contexts ctx k None apart) ∙ begun k b held
]
outcome_begun s (event.Plan ctx draft) begun early =
    at_option HoldersBegun _ (context_of s ctx) s begun (λ c k b held. begun_stays s.contexts ctx k _ (begun k b held))
outcome_begun s (event.Arm ctx) begun early =
    at_option (λ (p : Answer × CoreState). HoldersBegun p.1) _ (plan_of s ctx) (answer.Ok, s) begun
    (λ job. at_option HoldersBegun _ (context_of s ctx) (armed_core s job) begun (λ c k b held. begun_stays s.contexts ctx k _ (begun k b held)))
outcome_begun s (event.Pick ring now) begun early = begun
outcome_begun s (event.Step ring) begun early = begun
outcome_begun s (event.Finish ring now) begun early = begun
outcome_begun s (event.Timeout ring now) begun early = begun
outcome_begun s (event.Cancel j) begun early = begun
outcome_begun s (event.Reap j) begun early = begun
outcome_begun s (event.Read ctx c) begun early = begun
outcome_begun s (event.Status f) begun early = begun
outcome_begun s (event.Dump c) begun early = begun

pub holders_stay_begun : (s : CoreState) (e : Event Draft) (a : Answer) (n : CoreState) → HoldersBegun s → Step s e a n → HoldersBegun n
holders_stay_begun s e a n begun step = elim (cases_step s e a n step) [
  | inl refused ↦ subst HoldersBegun (sym refused.keeps) begun
  | inr had ↦ subst HoldersBegun (sym had.leaves) (outcome_begun s e begun had.early)
]

pub run_holders_begun : (s : CoreState) (events : List (Event Draft)) (answers : List Answer) (n : CoreState) → HoldersBegun s → Run s events answers n → HoldersBegun n
run_holders_begun s [] [] n begun run = subst HoldersBegun (sym run) begun
run_holders_begun s [] (a ∷ rest) n begun run = absurd run
run_holders_begun s (e ∷ es) [] n begun run = absurd run
run_holders_begun s (e ∷ es) (a ∷ rest) n begun run = run_holders_begun run.0 es rest n (holders_stay_begun s e a run.0 begun run.1) run.2

pub nothing_held : (buffers : List (List ℕ)) (k b : ℕ) → holds_in (map (λ bytes. None) buffers) k b ≡ true → ⊥
nothing_held [] k b held = let never : false ≡ true = held in cc (never)
nothing_held (x ∷ xs) k zero held = let never : false ≡ true = held in cc (never)
nothing_held (x ∷ xs) k (suc b) held = nothing_held xs k b held

pub opened_holders_begun : (spec : DeviceSpec) → HoldersBegun (opened spec)
opened_holders_begun spec k b held = absurd (nothing_held spec.buffers k b held)

-- ---- a read that is not refused

-- no fence of a writer is busy where all have ended
pub read_not_busy : (laws : DeviceLaws) → (s : CoreState) (ctx b : ℕ) → IsSteadyCore s → b < length s.device.spec.buffers → MayRead s ctx b
    → read_refusal s.device (slice_get s.reservations b) ≡ None
read_not_busy laws s ctx b steady here may =
    let resv = steady.reservations b here in
    ap (read_refusal s.device) resv.1 ∙ ap (option_map Busy) ((laws.reads s.device b resv.0 steady.device resv.2).1 may.writers)

-- what a context that may read is answered
pub read_given : (laws : DeviceLaws) → (s : CoreState) (ctx b : ℕ) (a : Answer) (n : CoreState) → IsSteadyCore s → HoldersBegun s → b < length s.device.spec.buffers → MayRead s ctx b
    → Step s (event.Read ctx b) a n → (a ≡ answer.Refused Memory) ⊎ (a ≡ answer.Bytes (bytes_of s.device.memory b))
read_given laws s ctx b a n steady begun here may (inr lacks) = inl lacks.answers
read_given laws s ctx b a n steady begun here may (inl is) =
    inr (ap (λ (p : Answer × CoreState). p.0) is
    ∙ ap (λ o. (unless_refused (first_of (o ∷ None ∷ [])) s (outcome_of_event s (event.Read ctx b))).0) early)
  where
    not_idle : (o : Option Context) → is_some o ≡ true → when (is_none o) CtxIdle ≡ None
    not_idle None e = let never : false ≡ true = e in absurd (cc (never))
    not_idle (Some c) e = refl

    early : early_refusal s (event.Read ctx b) ≡ None
    early =
        ap (λ o. first_of (o ∷ not_held_refusal s ctx b ∷ read_refusal s.device (slice_get s.reservations b) ∷ [])) (not_idle (context_of s ctx) (begun ctx b may.holds))
        ∙ (ap (λ t. first_of (when (not t) (NotHeld b) ∷ read_refusal s.device (slice_get s.reservations b) ∷ [])) may.holds
        ∙ ap (λ o. first_of (o ∷ [])) (read_not_busy laws s ctx b steady here may))
