-- A readback that is not refused: every armed writer of the buffer has ended.
use Rattle.std.proofs.Common.{◌≡◌, ℕ, ◌≤◌, Bool, true, false, not, cond, ◌&&◌, ◌==◌, List, [], ◌∷◌, map, Some, None, Option, refl, sym, ap, ◌∙◌, inl, inr, arith, slice_get}
use Rattle.std.specs.Prelude.{filter, nat_le}
use Rattle.std.specs.List.{list_all, AllByRecursion}
use Rattle.std.specs.Option.{option_map_or}
use Rattle.std.proofs.lemmas.Bool.{cases_Bool, and_parts, and_from, not-true, not-false, not_from_false, eqb-true, leb-true, cases_order}
use Rattle.std.proofs.lemmas.List.Folds.{Any-from_list_any}
use Rattle.std.proofs.lemmas.List.Elements.{All-contains, All-weaker, recursion_from_All}
use Rattle.drm_lists.proofs.Places.{place_of}
use Rattle.drm_types.specs.declared.access.Usage.{Usage}
use Rattle.drm_types.specs.declared.access.Usage.TheVariants as usage
use Rattle.drm_types.specs.Usages.{is_as_strong}
use Rattle.drm_state.specs.declared.journal.JobRecord.{JobRecord}
use Rattle.drm_resv.specs.declared.entry.Entry.{Entry}
use Rattle.drm_resv.specs.Reservation.{Reservation}
use Rattle.drm_fence.specs.declared.phase.Phase.{Phase}
use Rattle.drm_fence.specs.declared.phase.Phase.TheVariants.{Queued, Scheduled, Ended}
use Rattle.drm_fence.specs.Phases.{has_ended, outcome_of}
use Rattle.drm_state.specs.Writers.{is_writer, HaveEnded}
use Rattle.drm_state.specs.Reservation.{usage_at, is_signaled, stands_for, IsOfJob, Fits}
use Rattle.drm_resv.specs.Active.{least}
use Rattle.drm_state.specs.Refusals.{busy_fence}
use Rattle.drm_state.specs.Lawful.{EachTwo, KeepsEntityOrder}
use Rattle.drm_state.proofs.Records.{at_test}
use Rattle.drm_state.proofs.ChoiceIs.{all_of_filter}
use Rattle.drm_state.proofs.FitsKept.{ended_none, usage_trans}

pub least_none : (xs : List ℕ) → least xs ≡ None → xs ≡ []
least_none [] none = refl
least_none (x ∷ xs) none = absurd (cc (none))

pub map_none : {X Y : Type 0} (f : X → Y) (xs : List X) → map f xs ≡ [] → xs ≡ []
map_none f [] none = refl
map_none f (x ∷ xs) none = absurd (cc (none))

-- of a list of which a filter keeps nothing each element fails
pub none_kept : {X : Type 0} (p : X → Bool) (xs : List X) → filter p xs ≡ [] → list_all (λ x. not (p x)) xs ≡ true
none_kept p [] none = refl
none_kept {X} p (x ∷ xs) none =
    elim (p x) as (λ b. p x ≡ b → cond b (x ∷ filter p xs) (filter p xs) ≡ [] → list_all (λ x. not (p x)) (x ∷ xs) ≡ true) [
      | true ↦ λ is none. absurd (cc (none))
      | false ↦ λ is none. and_from (not (p x)) (list_all (λ x. not (p x)) xs) (not_from_false (p x) is) (none_kept p xs none)
    ] refl none

-- an entry with an outcome stands for no job without one
pub standing_signaled : (buffer : ℕ) (journal : List JobRecord) (e : Entry) (i : ℕ) (r : JobRecord) (u : Usage) → EachTwo journal KeepsEntityOrder
    → IsOfJob buffer journal e → slice_get journal i ≡ Some r → outcome_of r.phase ≡ None → is_signaled journal e.fence ≡ true
    → stands_for i r u e ≡ true → ⊥
standing_signaled buffer journal e i r u order of_job at none signaled stands =
    let three = and_parts ((e.entity == r.job.entity) && nat_le i e.fence) (is_as_strong e.usage u) stands in
    let two = and_parts (e.entity == r.job.entity) (nat_le i e.fence) three.0 in
    let entity : e.entity ≡ r.job.entity = eqb-true e.entity r.job.entity two.0 in
    let fence : i ≤ e.fence = leb-true i e.fence two.1 in
    let z = of_job.0 in
    let z_ended : has_ended z.phase ≡ true = sym (at_test journal e.fence z (λ r. has_ended r.phase) of_job.1) ∙ signaled in
    elim (cases_order i e.fence) [
      | inl same ↦ let is_r : z ≡ r = cc (of_job.1, at, same) in ended_none r.phase (ap (λ (x : JobRecord). has_ended x.phase) (sym is_r) ∙ z_ended) none
      | inr apart ↦ elim apart [
        | inl before ↦
            let ordered : KeepsEntityOrder i r e.fence z = order i e.fence r z before at of_job.1 in
            ended_none r.phase (ordered.ended (sym entity ∙ sym of_job.3) z_ended) none
        | inr past ↦ omega (arith, fence, past)
      ]
    ]

-- where no fence of WRITE or stronger is busy, no armed job that added such a usage is without an outcome
pub users_ended : (buffer : ℕ) (journal : List JobRecord) (resv : Reservation) → EachTwo journal KeepsEntityOrder → Fits buffer journal resv
    → busy_fence journal resv ≡ None → (i : ℕ) (r : JobRecord) (u : Usage) → slice_get journal i ≡ Some r → usage_at buffer r.job ≡ Some u
    → is_as_strong u usage.Write ≡ true → outcome_of r.phase ≡ None → ⊥
users_ended buffer journal resv order fits free i r u at uses strong none =
    let waiting : Entry → Bool = λ e. not (is_signaled journal e.fence) in
    let writing : Entry → Bool = λ e. is_as_strong e.usage usage.Write in
    let kept_none : filter waiting (filter writing resv.entries) ≡ [] =
    map_none (λ (e : Entry). e.fence) (filter waiting (filter writing resv.entries)) (least_none _ free) in
    let any = Any-from_list_any (stands_for i r u) resv.entries (fits.covers i r u at uses none) in
    let e = any.1 in
    let place = place_of resv.entries e (any.0, any.2, any.3) in
    let stands = any.4 in
    let e_strong = usage_trans e.usage u usage.Write (and_parts ((e.entity == r.job.entity) && nat_le i e.fence) (is_as_strong e.usage u) stands).1 strong in
    let fails : not (waiting e) ≡ true =
    all_of_filter (λ e. not (waiting e)) writing resv.entries place.0 e (none_kept waiting (filter writing resv.entries) kept_none) place.1 e_strong in
    let signaled : is_signaled journal e.fence ≡ true = not-false (is_signaled journal e.fence) (not-true (waiting e) fails) in
    standing_signaled buffer journal e i r u order
    (All-contains (IsOfJob buffer journal) resv.entries e fits.of_jobs (any.0, any.2, any.3)) at none signaled stands

-- a phase that is not without an outcome has one
pub ended_from : (phase : Phase) → (outcome_of phase ≡ None → ⊥) → has_ended phase ≡ true
ended_from Queued has = absurd (has refl)
ended_from Scheduled has = absurd (has refl)
ended_from (Ended o) has = refl

-- where no fence of a writer is busy, every armed writer has its outcome
pub writers_ended : (buffer : ℕ) (journal : List JobRecord) (resv : Reservation) → EachTwo journal KeepsEntityOrder → Fits buffer journal resv
    → busy_fence journal resv ≡ None → HaveEnded buffer journal
writers_ended buffer journal resv order fits free f r at writer = ended_from r.phase (by_usage (usage_at buffer r.job) refl writer)
  where
    by_usage : (o : Option Usage) → usage_at buffer r.job ≡ o → option_map_or (λ u. is_as_strong u usage.Write) o false ≡ true → outcome_of r.phase ≡ None → ⊥
    by_usage None is strong none = let never : false ≡ true = strong in cc (never)
    by_usage (Some u) is strong none = users_ended buffer journal resv order fits free f r u at is strong none

-- two filters that no element passes together
pub filters_apart : {X : Type 0} (p q : X → Bool) (xs : List X) → AllByRecursion (λ x. p x ≡ true → q x ≡ false) xs → filter q (filter p xs) ≡ []
filters_apart p q [] all = refl
filters_apart {X} p q (x ∷ xs) all = elim (cases_Bool (p x)) [
  | inl passes ↦
      ap (λ t. filter q (cond t (x ∷ filter p xs) (filter p xs))) passes
      ∙ (ap (λ t. cond t (x ∷ filter q (filter p xs)) (filter q (filter p xs))) (all.0 passes) ∙ filters_apart p q xs all.1)
  | inr fails ↦ ap (λ t. filter q (cond t (x ∷ filter p xs) (filter p xs))) fails ∙ filters_apart p q xs all.1
]

-- and none is busy where all have
pub writers_free : (buffer : ℕ) (journal : List JobRecord) (resv : Reservation) → Fits buffer journal resv → HaveEnded buffer journal → busy_fence journal resv ≡ None
writers_free buffer journal resv fits ended =
    let p : Entry → Bool = λ e. is_as_strong e.usage usage.Write in
    let q : Entry → Bool = λ e. not (is_signaled journal e.fence) in
    let none : filter q (filter p resv.entries) ≡ [] = filters_apart p q resv.entries
    (recursion_from_All (λ e. p e ≡ true → q e ≡ false) resv.entries
    (All-weaker (IsOfJob buffer journal) (λ e. p e ≡ true → q e ≡ false)
    (λ e of_job strong.
    let writer : is_writer of_job.0.job buffer ≡ true = ap (λ o. option_map_or (λ u. is_as_strong u usage.Write) o false) of_job.2 ∙ strong in
    ap not (at_test journal e.fence of_job.0 (λ r. has_ended r.phase) of_job.1 ∙ ended e.fence of_job.0 of_job.1 writer))
    resv.entries fits.of_jobs)) in
    ap (λ (es : List Entry). least (map (λ (e : Entry). e.fence) es)) none
