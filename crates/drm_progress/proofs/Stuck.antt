-- The least job without an outcome can go on.
use Rattle.std.proofs.Common.{◌≡◌, ℕ, zero, suc, ◌-◌, ◌+◌, ◌<◌, ◌≤◌, Bool, true, false, not, ◌&&◌, ◌||◌, ◌==◌, List, [], ◌∷◌, take, length, Some, None, Option, refl, sym, ap, ◌∙◌, inl, inr, ◌⊎◌, arith, slice_get, subst, Contains}
use Rattle.std.specs.Prelude.{IsTrue, IsFalse, nat_lt, is_none, sum_by, min}
use Rattle.std.specs.List.{filter, list_all}
use Rattle.std.specs.Option.{option_map_or}
use Rattle.std.proofs.lemmas.Bool.{cases_Bool, and_from, and_parts, and_right, eq-eqb, lt-ltb, ltb-true}
use Rattle.std.proofs.lemmas.List.Elements.{All-contains}
use Rattle.std.proofs.lemmas.List.Sums.{AllPass-from_list_all}
use Rattle.drm_lists.proofs.Places.{stands_within}
use Rattle.drm_types.specs.Firsts.{when, first_of, first}
use Rattle.drm_types.specs.Limits.{are_distinct, are_rings, each, is_between, spec_fault, spec_tests}
use Rattle.drm_types.specs.declared.spec.DeviceSpec.{DeviceSpec}
use Rattle.drm_types.specs.declared.spec.EntitySpec.{EntitySpec}
use Rattle.drm_types.proofs.Firsts.{none_at, passes_at}
use Rattle.drm_fence.specs.declared.phase.Phase.{Phase}
use Rattle.drm_fence.specs.declared.phase.Phase.TheVariants.{Queued, Scheduled, Ended}
use Rattle.drm_fence.specs.Phases.{is_queued, has_ended}
use Rattle.drm_state.specs.declared.journal.JobRecord.{JobRecord}
use Rattle.drm_state.specs.declared.answer.Refusal.{Refusal}
use Rattle.drm_state.specs.declared.answer.Refusal.TheVariants.{Idle, NoCredit, Waits, Nothing}
use Rattle.drm_state.specs.State.{DeviceState}
use Rattle.drm_state.specs.Order.{comes_after, is_met, is_ready, dependencies}
use Rattle.drm_state.specs.Journal.{numbered}
use Rattle.drm_state.specs.Choice.{choice, queue_of}
use Rattle.drm_state.specs.Chosen.{ChoiceIsLeast, MayBegin}
use Rattle.drm_state.specs.Ring.{pending_of, is_stopped, credits_of, credit_limit_of, free_credits}
use Rattle.drm_state.specs.Refusals.{pick_refusal, reap_refusal, must_still_wait}
use Rattle.drm_state.specs.Steady.{IsRingOf, IsSteady}
use Rattle.drm_progress.specs.Going.{Going, may_come, AskFewResets, FindsAllLate, NoDeviceIsStuck}
use Rattle.drm_progress.proofs.Lists.{all_before, all_append, first_passing}
use Rattle.drm_progress.proofs.Heads.{head_goes_on}
use Rattle.drm_progress.proofs.Falls.{entity_there}

-- all earlier ones have their outcome
abbrev EarlierEnded : List JobRecord → ℕ → Type 0
EarlierEnded journal j = (k : ℕ) (e : JobRecord) → k < j → slice_get journal k ≡ Some e → IsTrue (has_ended e.phase)

-- the least one without an outcome
least : (journal : List JobRecord) (i : ℕ) (r : JobRecord) → slice_get journal i ≡ Some r → IsFalse (has_ended r.phase)
    → (j : ℕ) × (s : JobRecord) × (slice_get journal j ≡ Some s) × IsFalse (has_ended s.phase) × EarlierEnded journal j
least [] i r at is = absurd (cc (at))
least (x ∷ rest) i r at is = by_first (λ k there. least rest k r there is) (cases_Bool (has_ended x.phase)) i at
  where
    by_first : ((k : ℕ) → slice_get rest k ≡ Some r → (j : ℕ) × (s : JobRecord) × (slice_get rest j ≡ Some s) × IsFalse (has_ended s.phase) × EarlierEnded rest j)
        → (has_ended x.phase ≡ true) ⊎ (has_ended x.phase ≡ false) → (i : ℕ) → slice_get (x ∷ rest) i ≡ Some r
        → (j : ℕ) × (s : JobRecord) × (slice_get (x ∷ rest) j ≡ Some s) × IsFalse (has_ended s.phase) × EarlierEnded (x ∷ rest) j
    by_first further (inr waits) i at = (0, x, refl, waits, λ k e less here. absurd (omega (arith, less)))
    by_first further (inl ended) zero at = absurd (let same : x ≡ r = cc (at) in let never : true ≡ false = sym ended ∙ ap (λ (q : JobRecord). has_ended q.phase) same ∙ is in cc (never))
    by_first further (inl ended) (suc k) at =
        let (j, s, there, waits, earlier) = further k at in (suc j, s, there, waits, before j earlier)
      where
        before : (j : ℕ) → EarlierEnded rest j → EarlierEnded (x ∷ rest) (suc j)
        before j earlier zero e less here = let same : x ≡ e = cc (here) in ap (λ (q : JobRecord). has_ended q.phase) (sym same) ∙ ended
        before j earlier (suc k) e less here = earlier k e (omega (arith, less)) here

not_queued : (p : Phase) → has_ended p ≡ true → is_queued p ≡ false
not_queued Queued is = absurd (cc (is))
not_queued Scheduled is = refl
not_queued (Ended o) is = refl

at_most_limit : (d : DeviceState) (ring f : ℕ) → credits_of d ring f ≤ credit_limit_of d ring
at_most_limit d ring f = by_record (slice_get d.journal f)
  where
    by_record : (o : Option JobRecord) → option_map_or (λ r. min r.job.credits (credit_limit_of d ring)) o 0 ≤ credit_limit_of d ring
    by_record None = omega arith
    by_record (Some r) = grind (arith)

-- the rings of a list that is within its limits are there
listed_there : (rings : List ℕ) (count ring : ℕ) → are_rings count rings ≡ true → (ring ≡ option_map_or (λ r. r) (first rings) 0) ⊎ Contains rings ring
    → ring < count
listed_there [] count ring fit listed = let never : false ≡ true = fit in absurd (cc (never))
listed_there (x ∷ rest) count ring fit listed =
    let parts = and_parts (is_between 1 8 (length (x ∷ rest)) && list_all (λ r. nat_lt r count) (x ∷ rest)) (are_distinct (x ∷ rest)) fit in
    let all = (and_parts (is_between 1 8 (length (x ∷ rest))) (list_all (λ r. nat_lt r count) (x ∷ rest)) parts.0).1 in
    let pass = AllPass-from_list_all (λ r. nat_lt r count) (x ∷ rest) all in
    elim listed [
      | inl is ↦ subst (λ n. n < count) (sym is) (ltb-true x count (All-contains (λ r. nat_lt r count ≡ true) (x ∷ rest) x pass (0, omega arith, refl)))
      | inr there ↦ ltb-true ring count (All-contains (λ r. nat_lt r count ≡ true) (x ∷ rest) ring pass there)
    ]

-- a ring that is listed for an entity is there
ring_there : (spec : DeviceSpec) (entity ring : ℕ) → spec_fault spec ≡ None → entity < length spec.entities → IsRingOf spec entity ring
    → ring < length spec.rings
ring_there spec entity ring limits within listed =
    let (e, at) = stands_within spec.entities entity within in
    let fit : are_rings (length spec.rings) e.rings ≡ true =
    passes_at (λ (x : EntitySpec). are_rings (length spec.rings) x.rings) spec.entities (λ i. record { part = 7; index = i }) entity e
    (none_at (spec_tests spec) 7 (each 7 (λ (x : EntitySpec). are_rings (length spec.rings) x.rings) spec.entities) limits refl) at in
    listed_there e.rings (length spec.rings) ring fit (of_entity e at listed)
  where
    of_entity : (e : EntitySpec) → slice_get spec.entities entity ≡ Some e → IsRingOf spec entity ring
        → (ring ≡ option_map_or (λ r. r) (first e.rings) 0) ⊎ Contains e.rings ring
    of_entity e at is =
        subst
        (λ o. (ring ≡ option_map_or (λ r. r) (first (option_map_or (λ (x : EntitySpec). x.rings) o [])) 0) ⊎ Contains (option_map_or (λ (x : EntitySpec). x.rings) o []) ring)
        at is

-- something comes that lets a job go on
abbrev Comes : DeviceState → ℕ → Type 0
Comes d now = (going : Going) × IsTrue (may_come d now going)

module _ (choices : ChoiceIsLeast) (d : DeviceState) (now : ℕ) (steady : IsSteady d) (limits : spec_fault d.spec ≡ None) (few : AskFewResets d.journal)
    (late : FindsAllLate d now) (j : ℕ) (s : JobRecord) (at : slice_get d.journal j ≡ Some s) (earlier : EarlierEnded d.journal j) where
  entity_here : s.job.entity < length d.spec.entities
  entity_here = entity_there d.spec s.job (steady.lawful.records j s at).job

  ring_here : s.ring < length d.spec.rings
  ring_here = ring_there d.spec s.job.entity s.ring limits entity_here (steady.listed j s at)

  ready : is_ready d.journal j s ≡ true
  ready =
      all_before (λ n. is_met s.ring n.1) (λ n. comes_after s.job n.0 n.1.job) d.journal 0 j
      (λ k e less here. ap (λ b. b || (not (is_queued e.phase) && (e.ring == s.ring))) (earlier k e less here))

  waits_no_more : must_still_wait d.journal j s ≡ false
  waits_no_more =
      ap not
      (all_append (λ n. has_ended n.1.phase) (dependencies d.journal j s.job) (filter (λ n. n.1.job.entity == s.job.entity) (take j (numbered d.journal)))
      (all_before (λ n. has_ended n.1.phase) (λ n. comes_after s.job n.0 n.1.job) d.journal 0 j earlier)
      (all_before (λ n. has_ended n.1.phase) (λ n. n.1.job.entity == s.job.entity) d.journal 0 j earlier))

  -- a ring with something pending has a head
  has_head : (pending : List ℕ) → pending_of d s.ring ≡ pending → 0 < length pending → Comes d now
  has_head [] is some = absurd (omega (arith, some))
  has_head (x ∷ rest) is some = head_goes_on d now s.ring x steady.lawful few late ring_here (ap first is)

  scheduled : s.phase ≡ Scheduled → Comes d now
  scheduled is =
      let (k, within, place) = ((steady.lawful.rings s.ring ring_here).pending j).1 (s, at, is, refl) in
      has_head (pending_of d s.ring) refl (omega (arith, within))

  reaped : is_queued s.phase ≡ true → is_stopped d s.job.entity ≡ true → Comes d now
  reaped queued stopped =
      (Going.Reap s.job.entity, and_from _ _ (lt-ltb s.job.entity (length d.spec.entities) entity_here) (ap is_none free))
    where
      none_more : 0 + j ≡ j
      none_more = omega arith

      first_is : first (queue_of s.job.entity d.journal) ≡ Some (j, s)
      first_is =
          first_passing (λ n. (n.1.job.entity == s.job.entity) && is_queued n.1.phase) d.journal 0 j s at
          (ap (λ b. b && is_queued s.phase) (eq-eqb s.job.entity s.job.entity refl) ∙ queued)
          (λ k e less here. and_right (e.job.entity == s.job.entity) (is_queued e.phase) (not_queued e.phase (earlier k e less here)))
          ∙ ap (λ n. Some (n, s)) none_more

      by_first : Option (ℕ × JobRecord) → Option Refusal
      by_first o =
          first_of (when (not (is_stopped d s.job.entity) || is_none o) Nothing ∷ option_map_or (λ n. when (must_still_wait d.journal n.0 n.1) Waits) o None ∷ [])

      by_stopped : Bool → Option Refusal
      by_stopped b = first_of (when (not b || false) Nothing ∷ when (must_still_wait d.journal j s) Waits ∷ [])

      by_waits : Bool → Option Refusal
      by_waits b = first_of (when b Waits ∷ [])

      free : reap_refusal d s.job.entity ≡ None
      free = ap by_first first_is ∙ ap by_stopped stopped ∙ ap by_waits waits_no_more

  picked : is_queued s.phase ≡ true → is_stopped d s.job.entity ≡ false → Comes d now
  picked queued active = by_choice (choice d s.ring) refl
    where
      may : MayBegin d s.ring s.job.entity j
      may = record {
        there = entity_here;
        active = active;
        head = s;
        first = record {
          at = at;
          of_entity = refl;
          queued = queued;
          first = λ k e less here same. not_queued e.phase (earlier k e less here);
        };
        on_ring = refl;
        ready = ready;
      }

      by_credits : (f : ℕ) → choice d s.ring ≡ Some f → (nat_lt (free_credits d s.ring) (credits_of d s.ring f) ≡ true) ⊎ (nat_lt (free_credits d s.ring) (credits_of d s.ring f) ≡ false) → Comes d now
      by_credits f is (inr fits) = (Going.Pick s.ring, and_from _ _ (lt-ltb s.ring (length d.spec.rings) ring_here) (ap is_none free))
        where
          free : pick_refusal d s.ring ≡ None
          free =
              ap (λ o. option_map_or (λ g. when (nat_lt (free_credits d s.ring) (credits_of d s.ring g)) (NoCredit (credits_of d s.ring g) (free_credits d s.ring))) o (Some Idle)) is
              ∙ ap (λ b. when b (NoCredit (credits_of d s.ring f) (free_credits d s.ring))) fits
      by_credits f is (inl short) = by_pending (pending_of d s.ring) refl
        where
          by_pending : (pending : List ℕ) → pending_of d s.ring ≡ pending → Comes d now
          by_pending [] none =
              let free : free_credits d s.ring ≡ credit_limit_of d s.ring - 0 = ap (λ ps. credit_limit_of d s.ring - sum_by (credits_of d s.ring) ps) none in
              let need = at_most_limit d s.ring f in
              absurd (omega (arith, ltb-true (free_credits d s.ring) (credits_of d s.ring f) short, free, need))
          by_pending (x ∷ rest) some = has_head (x ∷ rest) some (omega arith)

      by_choice : (o : Option ℕ) → choice d s.ring ≡ o → Comes d now
      by_choice None is = absurd ((choices d s.ring steady).none.0 is s.job.entity j may)
      by_choice (Some f) is = by_credits f is (cases_Bool (nat_lt (free_credits d s.ring) (credits_of d s.ring f)))

  goes_on : IsFalse (has_ended s.phase) → Comes d now
  goes_on waits = by_phase s.phase refl
    where
      by_phase : (p : Phase) → s.phase ≡ p → Comes d now
      by_phase Queued is =
          elim (cases_Bool (is_stopped d s.job.entity)) [
            | inl stopped ↦ reaped (ap is_queued is) stopped
            | inr active ↦ picked (ap is_queued is) active
          ]
      by_phase Scheduled is = scheduled is
      by_phase (Ended o) is = absurd (let never : true ≡ false = sym (ap has_ended is) ∙ waits in cc (never))

pub never_stuck : ChoiceIsLeast → NoDeviceIsStuck
never_stuck choices d now steady limits few late i r at waits =
    let (j, s, here, still, earlier) = least d.journal i r at waits in goes_on choices d now steady limits few late j s here earlier still
