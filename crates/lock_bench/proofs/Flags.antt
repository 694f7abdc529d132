-- One flag of a list is set.
use Rattle.std.proofs.Common.{◌≡◌, ℕ, ◌<◌, Bool, true, List, set, length, Some, sym, subst, ◌∙◌, slice_get}
use mathlib.Core.Logic.{dite}
use native.Mathlib.Decide.{ℕ_discrete}
use Rattle.drm_lists.proofs.Changed.{get_set_within, get_set_other}

-- no flag that was set is taken back
pub set_more : (flags : List Bool) (i j : ℕ) → i < length flags → slice_get flags j ≡ Some true → slice_get (set flags i true) j ≡ Some true
set_more flags i j lt was = dite (ℕ_discrete j i)
    (λ same. subst (λ k. slice_get (set flags i true) k ≡ Some true) (sym same) (get_set_within flags i true lt))
    (λ away. get_set_other flags i j true away ∙ was)
