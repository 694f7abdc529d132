-- The pairs of each fence, linked into one list that starts and ends at a place of the fence.
use Rattle.std.specs.Prelude.{◌≡◌, ◌≢◌, ◌⊎◌, ℕ, ◌+◌, ◌<◌, nat_lt, if◌then◌else◌, List, length, Option, Some, slice_get, IsTrue}
use Rattle.std.specs.Option.{option_map_or}
use Rattle.drm_fence.specs.declared.pair.Pair.{Pair}
use Rattle.drm_fence.specs.declared.links.Links.{Links}
use Rattle.drm_fence.specs.Cells.{IsCounted}

-- where the links of a place lead: to what is behind it, and to what is before it
abbrev pub behind_of : List Links → ℕ → ℕ
behind_of links k = option_map_or (λ l. l.behind) (slice_get links k) 0

abbrev pub before_of : List Links → ℕ → ℕ
before_of links k = option_map_or (λ l. l.before) (slice_get links k) 0

-- the place that a link in the list of a fence leads to: that of a cell, or else the end of the list
abbrev pub linked_place : ℕ → ℕ → ℕ → ℕ
linked_place cells fence link = if nat_lt link cells then link else (cells + fence)

-- two places of the list of a fence are neighbours by their links, and all other links are as they were
pub record IsJoined (old new : List Links) (cells fence before behind : ℕ) : Type 0 where
  pub places : length new ≡ length old
  pub behind_is : behind_of new (linked_place cells fence before) ≡ behind
  pub before_is : before_of new (linked_place cells fence behind) ≡ before
  pub others_behind : (k : ℕ) → k ≢ linked_place cells fence before → behind_of new k ≡ behind_of old k
  pub others_before : (k : ℕ) → k ≢ linked_place cells fence behind → before_of new k ≡ before_of old k

-- the place is in the list of the fence: it has a pair that waits for it, or is the end of the list
abbrev pub IsOf : List (Option Pair) → ℕ → ℕ → ℕ → Type 0
IsOf cells places k fence = ((p : Pair) × (slice_get cells k ≡ Some (Some p)) × (p.fence ≡ fence)) ⊎ ((k ≡ length cells + fence) × (k < places))

-- the place has an early pair
abbrev pub IsEarly : List (Option Pair) → ℕ → Type 0
IsEarly cells k = (p : Pair) × (slice_get cells k ≡ Some (Some p)) × IsTrue p.is_early

-- the places of each list stand in a ring, in which each place that is no end comes later than the one before it, and
-- an early place behind no other than early ones
pub record IsRing (In : ℕ → ℕ → Type 0) (Early : ℕ → Type 0) (ends : ℕ) (behind before : ℕ → ℕ) : Type 0 where
  pub turn : ℕ → ℕ
  pub behind_in : (k f : ℕ) → In k f → In (behind k) f
  pub before_in : (k f : ℕ) → In k f → In (before k) f
  pub there : (k f : ℕ) → In k f → behind (before k) ≡ k
  pub back : (k f : ℕ) → In k f → before (behind k) ≡ k
  pub later : (k f : ℕ) → In k f → k < ends → turn (before k) < turn k
  pub early_first : (k f : ℕ) → In k f → Early k → before k < ends → Early (before k)

-- the pairs are counted, each is in the list of its fence, and the links of a place lead to its neighbours in the list
pub record IsLinked (cells : List (Option Pair)) (unmet : List ℕ) (links : List Links) : Type 0 where
  pub counted : IsCounted cells unmet
  pub fences : (k : ℕ) (p : Pair) → slice_get cells k ≡ Some (Some p) → length cells + p.fence < length links
  pub behind : ℕ → ℕ
  pub before : ℕ → ℕ
  pub rings : IsRing (IsOf cells (length links)) (IsEarly cells) (length cells) behind before
  pub behind_is : (k f : ℕ) → IsOf cells (length links) k f → linked_place (length cells) f (behind_of links k) ≡ behind k
  pub before_is : (k f : ℕ) → IsOf cells (length links) k f → linked_place (length cells) f (before_of links k) ≡ before k
