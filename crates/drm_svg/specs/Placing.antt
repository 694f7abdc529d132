-- The rows of one lane while its bars come into them, one after another.
use Rattle.std.specs.Prelude.{◌≡◌, ◌≢◌, ℕ, true, false, ◌+◌, ◌<◌, ◌≤◌, List, [], ◌∷◌, ◌++◌, All, AllPairs, Any, filter, length, map, slice_index}
use Rattle.drm_picture.specs.declared.bars.Bar.{Bar}
use Rattle.drm_picture.specs.declared.bars.Lane.{Lane}
use Rattle.drm_picture.specs.declared.picture.Picture.{Picture}
use Rattle.drm_svg.specs.declared.placing.Placed.{Placed}
use Rattle.drm_svg.specs.declared.placing.Taken.{Taken}
use Rattle.drm_svg.specs.Layout.{AreApart, EachRowAboveIsTaken, end_of, is_in, left_of, placed_at, width_of}

-- this row ends here now, and each other where it ended
pub record TakesRow (old : List ℕ) (row end : ℕ) (new : List ℕ) : Type 0 where
  pub longer : length old ≤ length new
  pub there : row < length new
  pub ends : slice_index new row ≡ end
  pub others : (k : ℕ) → k < length new → k ≢ row → (k < length old) × (slice_index new k ≡ slice_index old k)

-- a bar comes into this row, which is free where it begins, and the rows above are not
pub record PlacesAt (picture : Picture) (first row : ℕ) (bar : Bar) (ends ends' : List ℕ) (bars bars' : List Placed) : Type 0 where
  pub behind : first ≤ row
  pub within : row ≤ length ends
  pub taken : (k : ℕ) → first ≤ k → k < row → left_of picture bar < slice_index ends k
  pub free : row < length ends → slice_index ends row ≤ left_of picture bar
  pub takes : TakesRow ends row (left_of picture bar + width_of picture bar) ends'
  pub put : bars' ≡ bars ++ placed_at picture row bar ∷ []

abbrev pub PlacesBar : Picture → ℕ → Bar → List ℕ → List ℕ → List Placed → List Placed → Type 0
PlacesBar picture first bar ends ends' bars bars' = (row : ℕ) × PlacesAt picture first row bar ends ends' bars bars'

-- it does if it is one of the lane, and else nothing changes
pub record PlacesIn (picture : Picture) (lane : Lane) (first : ℕ) (bar : Bar) (ends ends' : List ℕ) (bars bars' : List Placed) : Type 0 where
  pub inside : is_in lane bar ≡ true → PlacesBar picture first bar ends ends' bars bars'
  pub outside : is_in lane bar ≡ false → (ends' ≡ ends) × (bars' ≡ bars)

-- the rows from the first on to before this one are taken up to this column
pub record AreTaken (first : ℕ) (ends : List ℕ) (taken : Taken) : Type 0 where
  pub behind : first ≤ taken.below
  pub within : taken.below ≤ length ends
  pub until : (row : ℕ) → first ≤ row → row < taken.below → taken.until ≤ slice_index ends row

-- bars in the rows from the first on, which end there
pub record AreRowed (first : ℕ) (bars : List Placed) (ends : List ℕ) : Type 0 where
  pub apart : AllPairs AreApart bars
  pub above : EachRowAboveIsTaken first bars
  pub behind : first ≤ length ends
  pub within : All (λ bar. (first ≤ bar.row) × (bar.row < length ends)) bars
  pub last : (row : ℕ) → first ≤ row → row < length ends → All (λ bar. bar.row ≡ row → end_of bar ≤ slice_index ends row) bars
  pub reached : (row : ℕ) → first ≤ row → row < length ends → Any (λ bar. (bar.row ≡ row) × (end_of bar ≡ slice_index ends row)) bars

-- those of these bars that are in the lane have their rows
pub record ArePlaced (picture : Picture) (lane : Lane) (first : ℕ) (all : List Bar) (bars : List Placed) (ends : List ℕ) : Type 0 where
  pub drawn : map (λ placed. placed.bar) bars ≡ filter (is_in lane) all
  pub cut : All (λ placed. placed ≡ placed_at picture placed.row placed.bar) bars
  pub rowed : AreRowed first bars ends
