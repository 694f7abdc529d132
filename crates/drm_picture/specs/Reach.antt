-- How far the fences of a run reach.
use Rattle.std.specs.Prelude.{◌≡◌, ℕ, Bool, false, ◌+◌, ◌≤◌, List, Some, nat_le, slice_get, take}
use Rattle.std.specs.List.{All}
use Rattle.std.specs.Option.{option_map_or}
use Rattle.drm_picture.specs.Latest.{end_of}
use Rattle.drm_picture.specs.declared.bars.Bar.{Bar}

-- at each place stands a number behind which none of the bars up to that place ends
abbrev pub AreReaches : List Bar → List ℕ → Type 0
AreReaches bars reaches = (place reach : ℕ) → slice_get reaches place ≡ Some reach → All (λ bar. end_of bar ≤ reach) (take (place + 1) bars)

-- by these numbers none of the bars up to this place ends behind that end
abbrev pub is_within : List ℕ → ℕ → ℕ → Bool
is_within reaches place end = option_map_or (λ reach. nat_le reach end) (slice_get reaches place) false
