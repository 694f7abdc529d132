-- Lists that stand one behind another in one list.
use Rattle.std.specs.Prelude.{◌≡◌, ℕ, ◌+◌, ◌*◌, ◌^◌, ◌<◌, ◌≤◌, List, [], ◌∷◌, length, slice_range}
use Rattle.drm_resv.specs.Latest.{IsPerEntity}

-- the lists by their number, and for how many there is room
pub record ListsWithPlaces : Type 0 where
  pub lists : List (List (ℕ × ℕ))
  pub places : ℕ

-- the lists from a place on, each from where the one before ends to its own end
abbrev pub lists_from : List (ℕ × ℕ) → ℕ → List ℕ → List (List (ℕ × ℕ))
lists_from fences from [] = []
lists_from fences from (to ∷ ends) = slice_range fences from to ∷ lists_from fences to ends

-- one of these lists: it has at most 64 fences, one of each entity
pub record IsListed (fences : List (ℕ × ℕ)) (from to : ℕ) : Type 0 where
  pub ordered : from ≤ to
  pub within : to ≤ length fences
  pub few : to ≤ from + 64
  pub once : IsPerEntity (slice_range fences from to)

-- the ends of such lists from a place on, of which the last is the end of all fences
abbrev pub AreEnds : List (ℕ × ℕ) → ℕ → List ℕ → Type 0
AreEnds fences from [] = from ≡ length fences
AreEnds fences from (to ∷ ends) = IsListed fences from to × AreEnds fences to ends

-- room for so many lists is room for all of their fences, and each end is a `u32`
pub record HasRoom (lists fences : ℕ) : Type 0 where
  pub room : 64 * lists ≤ fences
  pub counted : 64 * lists < 2 ^ 32
