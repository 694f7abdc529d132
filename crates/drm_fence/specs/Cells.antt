-- The pairs in a table by entity and by the entity that is waited for.
use Rattle.std.specs.Prelude.{◌≡◌, ℕ, ◌+◌, ◌*◌, ◌<◌, ◌≤◌, Bool, ◌&&◌, ◌==◌, List, [], ◌∷◌, length, Option, Some, None, slice_get, slice_index}
use Rattle.drm_fence.specs.declared.pair.Pair.{Pair}
use Rattle.drm_fence.specs.declared.pair.Release.{Release}
use Rattle.drm_fence.specs.declared.pair.Release.TheVariants.{Scheduled, Ended}
use Rattle.drm_fence.specs.Waiting.{unmet_in}

-- the pairs that are there
abbrev pub pairs_in : List (Option Pair) → List Pair
pairs_in [] = []
pairs_in (None ∷ rest) = pairs_in rest
pairs_in (Some p ∷ rest) = p ∷ pairs_in rest

-- the fence that was scheduled or ended
abbrev pub fence_of : Release → ℕ
fence_of (Scheduled fence) = fence
fence_of (Ended fence) = fence

-- whether a pair waits no more
abbrev pub is_released : Release → Pair → Bool
is_released (Scheduled fence) p = (p.fence == fence) && p.is_early
is_released (Ended fence) p = p.fence == fence

-- each pair stands at its place, and the pairs of each entity are counted
pub record IsCounted (cells : List (Option Pair)) (unmet : List ℕ) : Type 0 where
  pub room : length cells ≡ length unmet * 64
  pub few : length unmet ≤ 64
  pub placed : (k : ℕ) (p : Pair) → slice_get cells k ≡ Some (Some p) → (k ≡ p.entity * 64 + p.of) × (p.of < 64) × (p.entity < length unmet)
  pub counted : (e : ℕ) → e < length unmet → slice_index unmet e ≡ unmet_in (pairs_in cells) e
