-- Each armed job has its place, and keeps it.
use Rattle.std.proofs.Common.{◌≡◌, ℕ, ◌<◌, Bool, List, [], ◌∷◌, Some, None, Option, refl, sym, ap, subst, ◌∙◌, inl, inr, slice_get}
use Rattle.std.specs.Option.{option_map_or}
use Rattle.std.specs.Prelude.{option_map, nat_le, is_none, length, find, IsTrue}
use Rattle.std.proofs.lemmas.Bool.{leb-false}
use Rattle.std.proofs.lemmas.Option.{slice_get_within}
use Rattle.drm_types.specs.Firsts.{when}
use Rattle.drm_types.specs.declared.spec.DeviceSpec.{DeviceSpec}
use Rattle.drm_job.specs.declared.Draft.{Draft}
use Rattle.drm_types.proofs.Firsts.{none_first}
use Rattle.drm_state.specs.declared.answer.Answer.{Answer}
use Rattle.drm_core.specs.declared.event.Event.{Event}
use Rattle.drm_core.specs.declared.event.Event.TheVariants as event
use Rattle.drm_state.specs.declared.answer.Refusal.TheVariants.{Full, NoFence, NotPlanned, Stopped}
use Rattle.drm_state.specs.declared.journal.JobRecord.{JobRecord}
use Rattle.drm_state.specs.State.{DeviceState}
use Rattle.drm_core.specs.State.{CoreState, opened}
use Rattle.drm_state.specs.Arming.{new_record}
use Rattle.drm_state.specs.Grows.{Grows}
use Rattle.drm_core.specs.Names.{names_exist}
use Rattle.drm_state.specs.Order.{HasPlace}
use Rattle.drm_core.specs.Refusals.{plan_of, idle_refusal, early_refusal, late_refusal}
use Rattle.drm_state.specs.Refusals.{arm_refusal}
use Rattle.drm_state.specs.Ring.{is_stopped}
use Rattle.drm_core.specs.Run.{Run, AllNamesExist}
use Rattle.drm_core.specs.Steady.{IsSteadyCore, JobsHavePlace}
use Rattle.drm_core.specs.Step.{Step}
use Rattle.drm_lists.proofs.Places.{stands_within, place_of, get_push_cases}
use Rattle.drm_core.proofs.Lists.{each_fails, not_when}
use Rattle.drm_core.proofs.CoreSteps.{step_is_kept}
use Rattle.drm_core.proofs.HeadlineReads.{Arms, CountsOn, counts_on}
use Rattle.drm_core.proofs.HeadlineSteps.{HadOutcome, cases_step}
use Rattle.drm_core.specs.Laws.{DeviceLaws}

-- where an arming is not refused, the next number is the job's place
arm_place : (d : DeviceState) (job : Draft) → arm_refusal d job ≡ None → HasPlace d.spec (length d.journal) job
arm_place d job none =
    let one = none_first (when (is_stopped d job.entity) Stopped) _ none in
    let two = none_first (when (nat_le d.spec.max_jobs (length d.journal)) Full) _ one.1 in
    let three = none_first (option_map NoFence (find late job.after)) [] two.1 in
    record {
      given = leb-false d.spec.max_jobs (length d.journal) (not_when (nat_le d.spec.max_jobs (length d.journal)) Full two.0);
      after = λ f has.
          let place = place_of job.after f has in
          leb-false (length d.journal) f (each_fails late job.after place.0 f (unnamed (find late job.after) three.0) place.1);
    }
  where
    late : ℕ → Bool
    late f = nat_le (length d.journal) f

    unnamed : (o : Option ℕ) → option_map NoFence o ≡ None → o ≡ None
    unnamed None e = refl
    unnamed (Some f) e = absurd (cc (e))

-- an event that armed a job was not refused by the device
arms_in_place : (s : CoreState) (e : Event Draft) (a : Answer) (n : CoreState) (job : Draft) → HadOutcome s e a n → Arms s e n job → arm_refusal s.device job ≡ None
arms_in_place s e a n job had arms = elim (arms.by_event) [
  | inl submits ↦ subst (λ x. late_refusal s x ≡ None) submits had.late
  | inr planned ↦
      let early : early_refusal s (event.Arm planned.0) ≡ None = subst (λ x. early_refusal s x ≡ None) planned.1 had.early in
      let plan = (none_first (idle_refusal s planned.0) (when (is_none (plan_of s planned.0)) NotPlanned ∷ option_map_or (arm_refusal s.device) (plan_of s planned.0) None ∷ []) early).1 in
      at_plan s (plan_of s planned.0) job planned.2 (none_first (option_map_or (arm_refusal s.device) (plan_of s planned.0) None) []
      (none_first (when (is_none (plan_of s planned.0)) NotPlanned) (option_map_or (arm_refusal s.device) (plan_of s planned.0) None ∷ []) plan).1).0
]
  where
    at_plan : (s : CoreState) (o : Option Draft) (job : Draft) → o ≡ Some job → option_map_or (arm_refusal s.device) o None ≡ None → arm_refusal s.device job ≡ None
    at_plan s o job is none = subst (λ p. option_map_or (arm_refusal s.device) p None ≡ None) is none

-- each job keeps its place over an event, and a job that it arms gets one
pub places_kept : (s : CoreState) (e : Event Draft) (a : Answer) (n : CoreState) → JobsHavePlace s.device → Grows s.device n.device → Step s e a n → JobsHavePlace n.device
places_kept s e a n places grows step f r at = elim (cases_step s e a n step) [
  | inl refused ↦ subst (λ (m : CoreState). JobsHavePlace m.device) (sym refused.keeps) places f r at
  | inr had ↦ elim (subst (CountsOn s e) (sym had.leaves) (counts_on s e)) [
    | inl count ↦ was_there (subst (λ k. f < k) count (slice_get_within n.device.journal f r at))
    | inr armed ↦ elim (get_push_cases s.device.journal (new_record s.device armed.0) f r (subst (λ js. slice_get js f ≡ Some r) armed.1.journal at)) [
      | inl old ↦ was_there (slice_get_within s.device.journal f r old)
      | inr it ↦
          let fresh : HasPlace s.device.spec f r.job =
          subst (λ k. HasPlace s.device.spec k r.job) (sym it.0)
          (subst (λ (x : JobRecord). HasPlace s.device.spec (length s.device.journal) x.job) (sym it.1) (arm_place s.device armed.0 (arms_in_place s e a n armed.0 had armed.1))) in
          subst (λ spec. HasPlace spec f r.job) (sym grows.spec) fresh
    ]
  ]
]
  where
    was_there : f < length s.device.journal → HasPlace n.device.spec f r.job
    was_there here =
        let old = stands_within s.device.journal f here in
        let new = grows.journal f old.0 old.1 in
        let same : new.0 ≡ r = cc (new.1, at) in
        let job : r.job ≡ old.0.job = ap (λ (x : JobRecord). x.job) (sym same) ∙ new.2.job in
        subst (λ spec. HasPlace spec f r.job) (sym grows.spec) (subst (λ j. HasPlace s.device.spec f j) (sym job) (places f old.0 old.1))

pub run_places_kept : (laws : DeviceLaws) → (s : CoreState) (spec : DeviceSpec) (events : List (Event Draft)) (answers : List Answer) (n : CoreState) → IsSteadyCore s → s.device.spec ≡ spec
    → AllNamesExist spec events → JobsHavePlace s.device → Run s events answers n → JobsHavePlace n.device
run_places_kept laws s spec [] [] n steady same names places run = subst (λ (m : CoreState). JobsHavePlace m.device) (sym run) places
run_places_kept laws s spec [] (a ∷ rest) n steady same names places run = absurd run
run_places_kept laws s spec (e ∷ es) [] n steady same names places run = absurd run
run_places_kept laws s spec (e ∷ es) (a ∷ rest) n steady same names places run =
    let here = subst (λ p. IsTrue (names_exist p e)) (sym same) names.0 in
    let kept = step_is_kept laws s e a run.0 steady here run.1 in
    run_places_kept laws run.0 spec es rest n kept.steady (kept.grows.spec ∙ same) names.1 (places_kept s e a run.0 places kept.grows run.1) run.2

pub no_places : (spec : DeviceSpec) → JobsHavePlace (opened spec).device
no_places spec f r at = absurd (cc (at))
