-- The fences of the jobs of a journal.
use Rattle.std.proofs.Common.{◌≡◌, ℕ, zero, suc, List, [], ◌∷◌, map, set, Some, refl, sym, ap, ◌∙◌, slice_get}
use Rattle.std.specs.Option.{option_map_or}
use Rattle.std.proofs.lemmas.List.{map-set}
use Rattle.drm_lists.proofs.Places.{to_map}
use Rattle.drm_fence.specs.declared.timeline.FenceState.{FenceState}
use Rattle.drm_fence.specs.Fences.{has_ended_at, fence_changed}
use Rattle.drm_state.specs.declared.journal.JobRecord.{JobRecord}
use Rattle.drm_state.specs.Reservation.{is_signaled}
use Rattle.drm_state.specs.Records.{fence_state_of}

-- whether a fence has an outcome, by the timeline and by the journal
pub ended_alike : (js : List JobRecord) (fs : List FenceState) → fs ≡ map fence_state_of js → has_ended_at fs ≡ is_signaled js
ended_alike js fs tie = ap has_ended_at tie ∙ (λ i f. by_map js f i)
  where
    by_map : (js : List JobRecord) (f : ℕ) → has_ended_at (map fence_state_of js) f ≡ is_signaled js f
    by_map [] f = refl
    by_map (r ∷ js) zero = refl
    by_map (r ∷ js) (suc f) = by_map js f

-- the fences stay those of the jobs when a job and its fence change alike
pub fence_tie : (js : List JobRecord) (fs : List FenceState) (f : ℕ) (r new : JobRecord) (change : FenceState → FenceState) → fs ≡ map fence_state_of js
    → slice_get js f ≡ Some r → change (fence_state_of r) ≡ fence_state_of new → fence_changed fs f change ≡ map fence_state_of (set js f new)
fence_tie js fs f r new change tie at same =
    ap (λ o. option_map_or (λ x. set fs f (change x)) o fs) (ap (λ fs. slice_get fs f) tie ∙ to_map fence_state_of js f r at)
    ∙ (ap (λ x. set fs f x) same ∙ (ap (λ fs. set fs f (fence_state_of new)) tie ∙ sym (map-set fence_state_of js f new)))
