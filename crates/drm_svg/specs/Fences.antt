-- Fences whose numbers follow one another.
use Rattle.std.specs.Prelude.{◌≡◌, ℕ, ◌+◌, ◌<◌, List, length, slice_index_or}
use Rattle.drm_svg.specs.declared.placing.Placed.{Placed}

-- from the first number on, each is one more than that before it
abbrev pub AreInTurn : ℕ → List Placed → Type 0
AreInTurn first fences = (k : ℕ) (d : Placed) → k < length fences → (slice_index_or fences k d).bar.opening.number ≡ first + k
