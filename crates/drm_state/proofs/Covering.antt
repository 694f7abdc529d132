-- What was collected from reservations that fit covers: each armed job that conflicts has a dependency.
use Rattle.std.proofs.Common.{◌≡◌, ◌≢◌, ℕ, zero, suc, Bool, true, false, cond, ◌&&◌, ◌==◌, List, [], ◌∷◌, map, Some, None, refl, sym, ap, subst, ◌∙◌, inl, inr, arith, slice_get}
use Rattle.std.specs.Prelude.{Contains, find, option_map, nat_le, nat_eq}
use Rattle.std.specs.List.{list_any, filter, IsDistinct}
use Rattle.std.proofs.lemmas.Bool.{or_cases, and_parts, eqb-true, eq-eqb, leb-true, both_ways}
use Rattle.std.proofs.lemmas.List.Elements.{All-contains, All-weaker}
use Rattle.std.proofs.lemmas.List.Folds.{Any-from_list_any}
use Rattle.std.proofs.lemmas.Map.Keys.{apart_from_distinct, IsDistinct-tail}
use Rattle.std.proofs.lemmas.Option.{slice_get_within, get_or_from_slice_get}
use Rattle.drm_lists.proofs.Places.{place_of, to_map}
use Rattle.drm_types.specs.declared.access.Access.{Access}
use Rattle.drm_types.specs.declared.access.Usage.{Usage}
use Rattle.drm_types.specs.declared.spec.DeviceSpec.{DeviceSpec}
use Rattle.drm_types.specs.Usages.{added_usage, wanted_usage, is_as_strong}
use Rattle.drm_types.proofs.Firsts.{find_found}
use Rattle.drm_job.specs.declared.Draft.{Draft}
use Rattle.drm_job.specs.Conflicts.{must_wait, conflicts}
use Rattle.drm_job.specs.Fault.{IsJob}
use Rattle.drm_job.specs.Laws.{JobsAreTheSoundDrafts}
use Rattle.drm_job.specs.Uses.{access_of}
use Rattle.drm_job.proofs.Apart.{conflicts_at}
use Rattle.drm_fence.specs.declared.phase.Phase.{Phase}
use Rattle.drm_fence.specs.declared.phase.Phase.TheVariants.{Queued, Scheduled, Ended}
use Rattle.drm_fence.specs.Phases.{has_ended, outcome_of}
use Rattle.drm_resv.specs.declared.entry.Entry.{Entry}
use Rattle.drm_resv.specs.Reservation.{Reservation}
use Rattle.drm_state.specs.declared.journal.JobRecord.{JobRecord}
use Rattle.drm_state.specs.State.{DeviceState}
use Rattle.drm_state.specs.Collected.{IsAsked, CollectedCovers}
use Rattle.drm_state.specs.Held.{AllFit}
use Rattle.drm_state.specs.Lawful.{IsLawfulDevice}
use Rattle.drm_state.specs.Plans.{MeetsPlan, DepsCover}
use Rattle.drm_state.specs.Reservation.{usage_at, stands_for, IsOfJob, Fits}
use Rattle.drm_state.proofs.ChoiceIs.{in_filter}
use Rattle.drm_state.proofs.FitsKept.{usage_trans}

-- ---- what a job declares

-- where no buffer is declared twice, each is found as it was declared
finds_declared : (declared : List (ℕ × Access)) (k : ℕ) (d : ℕ × Access) → IsDistinct nat_eq (map (λ d. d.0) declared) → slice_get declared k ≡ Some d
    → find (λ e. e.0 == d.0) declared ≡ Some d
finds_declared [] k d once at = absurd (cc (at))
finds_declared (e ∷ es) zero d once at =
    let same : e ≡ d = cc (at) in
    ap (λ t. cond t (Some e) (find (λ (e : ℕ × Access). e.0 == d.0) es)) (eq-eqb e.0 d.0 (ap (λ (z : ℕ × Access). z.0) same)) ∙ at
finds_declared (e ∷ es) (suc k) d once at =
    let firsts : List ℕ = map (λ (d : ℕ × Access). d.0) es in
    let there : slice_get firsts k ≡ Some d.0 = to_map (λ (d : ℕ × Access). d.0) es k d at in
    let within = slice_get_within firsts k d.0 there in
    let other : (e.0 == d.0) ≡ false = subst (λ n. (e.0 == n) ≡ false) (get_or_from_slice_get firsts k d.0 d.0 there)
    (apart_from_distinct nat_eq (e.0 ∷ firsts) 0 (suc k) d.0 once (omega arith) (omega (arith, within))) in
    ap (λ t. cond t (Some e) (find (λ (e : ℕ × Access). e.0 == d.0) es)) other ∙ finds_declared es k d (IsDistinct-tail nat_eq e.0 firsts once) at

-- a job uses what it declares as it declares it
pub declared_used : JobsAreTheSoundDrafts → (spec : DeviceSpec) (job : Draft) (k : ℕ) (d : ℕ × Access) → IsJob spec job → slice_get job.declared k ≡ Some d
    → access_of job d.0 ≡ Some d.1
declared_used sound spec job k d is at = ap (option_map (λ (d : ℕ × Access). d.1)) (finds_declared job.declared k d ((sound spec job).0 is).distinct at)

-- and declares what it uses
used_declared : (job : Draft) (b : ℕ) (a : Access) → access_of job b ≡ Some a → (d : ℕ × Access) × Contains job.declared d × (d.0 ≡ b) × (d.1 ≡ a)
used_declared job b a is =
    elim (find (λ d. d.0 == b) job.declared) as (λ o. find (λ d. d.0 == b) job.declared ≡ o → option_map (λ (d : ℕ × Access). d.1) o ≡ Some a
    → (d : ℕ × Access) × Contains job.declared d × (d.0 ≡ b) × (d.1 ≡ a)) [
      | None ↦ λ none no. absurd (let never : None ≡ Some a = no in cc (never))
      | Some d ↦ λ some yes.
          let r = find_found (λ d. d.0 == b) job.declared d some in
          let same : Some d.1 ≡ Some a = yes in (d, r.0, eqb-true d.0 b r.1, cc (same))
    ] refl is

-- the access by which it adds a usage
added_by : (job : Draft) (b : ℕ) (usage : Usage) → usage_at b job ≡ Some usage → (a : Access) × (access_of job b ≡ Some a) × (added_usage a ≡ usage)
added_by job b usage is =
    elim (access_of job b) as (λ o. access_of job b ≡ o → option_map added_usage o ≡ Some usage → (a : Access) × (access_of job b ≡ Some a) × (added_usage a ≡ usage)) [
      | None ↦ λ none no. absurd (let never : None ≡ Some usage = no in cc (never))
      | Some a ↦ λ some yes. let same : Some (added_usage a) ≡ Some usage = yes in (a, some, cc (same))
    ] refl is

-- so it uses no buffer that it does not declare
pub not_declared : (job : Draft) (b : ℕ) → ((k : ℕ) (d : ℕ × Access) → slice_get job.declared k ≡ Some d → d.0 ≢ b) → usage_at b job ≡ None
not_declared job b none =
    elim (usage_at b job) as (λ o. usage_at b job ≡ o → o ≡ None) [
      | None ↦ λ e. refl
      | Some usage ↦ λ e.
          let by = added_by job b usage e in
          let d = used_declared job b by.0 by.1 in
          let k = place_of job.declared d.0 d.1 in absurd (none k.0 d.0 k.1 d.2)
    ] refl

-- two jobs that conflict declare a buffer at which the later waits for the earlier
record MeetsAt (earlier later : Draft) (k l : ℕ) (d e : ℕ × Access) : Type 0 where
  pub first : slice_get earlier.declared k ≡ Some d
  pub second : slice_get later.declared l ≡ Some e
  pub same : d.0 ≡ e.0
  pub waits : must_wait d.1 e.1 ≡ true

meets_at : (earlier later : Draft) → conflicts earlier later ≡ true → (k l : ℕ) × (d e : ℕ × Access) × MeetsAt earlier later k l d e
meets_at earlier later is =
    let one = Any-from_list_any (λ d. list_any (λ e. (d.0 == e.0) && must_wait d.1 e.1) later.declared) earlier.declared is in
    let d : ℕ × Access = one.1 in
    let two = Any-from_list_any (λ e. (d.0 == e.0) && must_wait d.1 e.1) later.declared one.4 in
    let e : ℕ × Access = two.1 in
    let k = place_of earlier.declared d (one.0, one.2, one.3) in
    let l = place_of later.declared e (two.0, two.2, two.3) in
    let parts = and_parts (d.0 == e.0) (must_wait d.1 e.1) two.4 in
    (k.0, l.0, d, e, record { first = k.1; second = l.1; same = eqb-true d.0 e.0 parts.0; waits = parts.1 })

-- ---- that it covers

-- an element that passes the first test is among those that pass the second
any_filter : {X : Type 0} (p q : X → Bool) (xs : List X) → list_any p xs ≡ true → ((x : X) → p x ≡ true → q x ≡ true)
    → (x : X) × Contains (filter q xs) x × (p x ≡ true)
any_filter p q [] is on = absurd (let never : false ≡ true = is in cc (never))
any_filter {X} p q (y ∷ ys) is on =
    elim (q y) as (λ b. q y ≡ b → (x : X) × Contains (cond b (y ∷ filter q ys) (filter q ys)) x × (p x ≡ true)) [
      | true ↦ λ t. elim (or_cases (p y) (list_any p ys) is) [
        | inl here ↦ (y, (0, omega arith, refl), here)
        | inr behind ↦ let r = any_filter p q ys behind on in (r.0, (suc r.1.0, omega (arith, r.1.1), r.1.2), r.2)
      ]
      | false ↦ λ f. elim (or_cases (p y) (list_any p ys) is) [
        | inl here ↦ absurd (both_ways (q y) f (on y here))
        | inr behind ↦ any_filter p q ys behind on
      ]
    ] refl

-- a phase that has not ended has no outcome
no_outcome : (phase : Phase) → has_ended phase ≡ false → outcome_of phase ≡ None
no_outcome Queued going = refl
no_outcome Scheduled going = refl
no_outcome (Ended outcome) going = absurd (let never : true ≡ false = going in cc (never))

-- a reservation that is held fits
fits_at : (journal : List JobRecord) (held : List (ℕ × Reservation)) (b : ℕ) (x : Reservation) → AllFit journal held → Contains held (b, x) → Fits b journal x
fits_at journal held b x fit has = let p = place_of held (b, x) has in fit p.0 (b, x) p.1

-- an entry that is asked for is that of an armed job that conflicts
asked_meets : (d : DeviceState) (job : Draft) (held : List (ℕ × Reservation)) (e : Entry) → AllFit d.journal held → IsAsked job held e
    → MeetsPlan d.journal job (e.entity, e.fence)
asked_meets d job held e fit asked =
    let b : ℕ = asked.0 in
    let x : Reservation = asked.1 in
    let a : Access = asked.2 in
    let parts = in_filter (λ (e : Entry). is_as_strong e.usage (wanted_usage a)) x.entries e asked.5 in
    let of_job = All-contains (IsOfJob b d.journal) x.entries e (fits_at d.journal held b x fit asked.3).of_jobs parts.0 in
    let by = added_by of_job.0.job b e.usage of_job.2 in
    let early = used_declared of_job.0.job b by.0 by.1 in
    let late = used_declared job b a asked.4 in
    let waits : must_wait by.0 a ≡ true = subst (λ u. is_as_strong u (wanted_usage a) ≡ true) (sym by.2) parts.1 in
    let declared : must_wait early.0.1 late.0.1 ≡ true = subst (λ c. must_wait c late.0.1 ≡ true) (sym early.3) (subst (λ c. must_wait by.0 c ≡ true) (sym late.3) waits) in
    (of_job.0, of_job.1, of_job.3, conflicts_at of_job.0.job job early.0 late.0 early.1 late.1 (early.2 ∙ sym late.2) declared)

pub covers : JobsAreTheSoundDrafts → CollectedCovers
covers sound job held deps holds is = record { in_each = cover }
  where
    cover : (d : DeviceState) → IsLawfulDevice d → IsJob d.spec job → AllFit d.journal held → DepsCover d job deps
    cover d lawful is_job fit = record {
      covers = λ i x at meets going.
          let m = meets_at x.job job meets in
          let a : ℕ × Access = m.2 in
          let e : ℕ × Access = m.3 in
          let h = holds m.1 e m.4.second in
          let adds : usage_at e.0 x.job ≡ Some (added_usage a.1) =
          subst (λ n. usage_at n x.job ≡ Some (added_usage a.1)) m.4.same (ap (option_map added_usage) (declared_used sound d.spec x.job m.0 a (lawful.records i x at).job m.4.first)) in
          let any = (fits_at d.journal held e.0 h.0 fit h.1).covers i x (added_usage a.1) at adds (no_outcome x.phase going) in
          let found = any_filter (stands_for i x (added_usage a.1)) (λ en. is_as_strong en.usage (wanted_usage e.1)) h.0.entries any
          (λ en s. usage_trans en.usage (added_usage a.1) (wanted_usage e.1)
          (and_parts ((en.entity == x.job.entity) && nat_le i en.fence) (is_as_strong en.usage (added_usage a.1)) s).1 m.4.waits) in
          let en : Entry = found.0 in
          let two = and_parts (en.entity == x.job.entity) (nat_le i en.fence)
          (and_parts ((en.entity == x.job.entity) && nat_le i en.fence) (is_as_strong en.usage (added_usage a.1)) found.2).0 in
          let there = is.reached en (e.0, h.0, e.1, h.1, declared_used sound d.spec job m.1 e is_job m.4.second, found.1) in
          let fence = leb-true i en.fence two.1 in
          let later = there.2 in
          (there.0, subst (λ n. Contains deps (n, there.0)) (eqb-true en.entity x.job.entity two.0) there.1, omega (arith, fence, later));
      of_jobs = All-weaker (λ p. (e : Entry) × IsAsked job held e × (p ≡ (e.entity, e.fence))) (MeetsPlan d.journal job)
          (λ p t. subst (MeetsPlan d.journal job) (sym t.2) (asked_meets d job held t.0 fit t.1)) deps is.asked;
    }
