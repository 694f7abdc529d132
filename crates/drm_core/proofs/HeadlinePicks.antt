-- What a pick tells of the jobs that may begin.
use Rattle.std.proofs.Common.{◌≡◌, ℕ, Bool, true, false, [], ◌∷◌, Some, None, Option, refl, sym, ap, ◌∙◌, inl, inr, slice_get}
use Rattle.std.specs.Prelude.{nat_lt}
use Rattle.std.specs.Option.{option_map_or}
use Rattle.std.proofs.lemmas.Bool.{both_ways}
use Rattle.drm_types.specs.Firsts.{when, first_of}
use Rattle.drm_state.specs.declared.answer.Answer.{Answer}
use Rattle.drm_state.specs.declared.answer.Answer.TheVariants as answer
use Rattle.drm_core.specs.declared.event.Event.TheVariants as event
use Rattle.drm_state.specs.declared.answer.Refusal.{Refusal}
use Rattle.drm_state.specs.declared.answer.Refusal.TheVariants.{Idle, NoCredit}
use Rattle.drm_state.specs.declared.journal.JobRecord.{JobRecord}
use Rattle.drm_state.specs.State.{DeviceState}
use Rattle.drm_core.specs.State.{CoreState}
use Rattle.drm_state.specs.Choice.{choice}
use Rattle.drm_state.specs.Chosen.{IsLeast, NoneMayBegin}
use Rattle.drm_state.specs.Outcomes.{picked_device, at_record}
use Rattle.drm_core.specs.Outcomes.{with_device}
use Rattle.drm_state.specs.Ring.{credits_of, free_credits, is_guilty}
use Rattle.drm_state.specs.Steady.{IsSteady}
use Rattle.drm_core.specs.Step.{unless_refused, Step}
use Rattle.drm_core.proofs.HeadlineSteps.{cases_step, at_option, is_refusal}
use Rattle.drm_core.specs.Laws.{DeviceLaws}

-- what a pick answers, by the job that it takes
abbrev pick_by : DeviceState → ℕ → ℕ → Option ℕ → Answer × DeviceState
pick_by d ring now o =
    at_record d (λ number r. (answer.Picked number (is_guilty d r.job.entity), picked_device d ring now number)) (answer.Ok, d) o

pub picks_least : (laws : DeviceLaws) → (s : CoreState) (ring now f : ℕ) (skipped : Bool) (n : CoreState) → IsSteady s.device → Step s (event.Pick ring now) (answer.Picked f skipped) n
    → IsLeast s.device ring f
picks_least laws s ring now f skipped n steady step = elim (cases_step s (event.Pick ring now) (answer.Picked f skipped) n step) [
  | inl refused ↦ absurd (let never = refused.answers in cc (never))
  | inr had ↦ ((laws.choice s.device ring steady).some f).0 (by_choice (choice s.device ring) refl had.answers)
]
  where
    d : DeviceState
    d = s.device

    by_record : (g : ℕ) (o : Option JobRecord)
        → answer.Picked f skipped ≡ (option_map_or {U = Answer × DeviceState} (λ (r : JobRecord). (answer.Picked g (is_guilty d r.job.entity), picked_device d ring now g)) o (answer.Ok, d)).0 → g ≡ f
    by_record g None is = absurd (cc (is))
    by_record g (Some r) is = cc (is)

    by_choice : (o : Option ℕ) → choice d ring ≡ o → answer.Picked f skipped ≡ (pick_by d ring now o).0 → choice d ring ≡ Some f
    by_choice None is told = absurd (cc (told))
    by_choice (Some g) is told = is ∙ ap (λ k. Some k) (by_record g (slice_get d.journal g) told)

pub idles_none : (laws : DeviceLaws) → (s : CoreState) (ring now : ℕ) (n : CoreState) → IsSteady s.device → Step s (event.Pick ring now) (answer.Refused Idle) n → NoneMayBegin s.device ring
idles_none laws s ring now n steady (inr lacks) = absurd (let never : false ≡ true = lacks.takes in cc (never))
idles_none laws s ring now n steady (inl is) =
    (laws.choice d ring steady).none.0 (by_choice (choice d ring) refl (ap (λ (p : Answer × CoreState). p.0) is))
  where
    d : DeviceState
    d = s.device

    -- the refusal by the job that it takes
    refused_by : Option ℕ → Option Refusal
    refused_by o =
        option_map_or (λ f. when (nat_lt (free_credits d ring) (credits_of d ring f)) (NoCredit (credits_of d ring f) (free_credits d ring))) o (Some Idle)

    told_by : Option ℕ → Answer
    told_by o = (unless_refused (first_of (refused_by o ∷ None ∷ [])) s (with_device s (pick_by d ring now o))).0

    not_idle : (f : ℕ) (b : Bool)
        → answer.Refused Idle ≡ (unless_refused (first_of (when b (NoCredit (credits_of d ring f) (free_credits d ring)) ∷ None ∷ [])) s (with_device s (pick_by d ring now (Some f)))).0
        → ⊥
    not_idle f true told = cc (told)
    not_idle f false told =
        both_ways (is_refusal (pick_by d ring now (Some f)).0)
        (at_option (λ (p : Answer × DeviceState). is_refusal p.0 ≡ false) _ (slice_get d.journal f) (answer.Ok, d) refl (λ r. refl))
        (ap is_refusal (sym told))

    by_choice : (o : Option ℕ) → choice d ring ≡ o → answer.Refused Idle ≡ told_by o → choice d ring ≡ None
    by_choice None none told = none
    by_choice (Some f) some told = absurd (not_idle f (nat_lt (free_credits d ring) (credits_of d ring f)) told)
