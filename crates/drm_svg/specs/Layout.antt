-- Where everything of a picture is drawn: rows of ten pixels, and columns of ten.
use Rattle.std.specs.Prelude.{◌≡◌, ℕ, zero, suc, Bool, false, ◌+◌, ◌-◌, ◌<◌, ◌≤◌, ◌==◌, List, [], ◌∷◌, ◌++◌, All, AllPairs, Any, ◌&&◌, filter, find, if◌then◌else◌, length, map, nat_le, nat_lt, option_and_then, option_map, Option, Some, None, slice_index_or, take}
use Rattle.std.specs.List.{enumerate_from}
use Rattle.std.specs.Option.{option_map_or}
use Rattle.drm_picture.specs.declared.bars.Bar.{Bar}
use Rattle.drm_picture.specs.declared.bars.Lane.{Lane}
use Rattle.drm_picture.specs.declared.bars.Lane.TheVariants as lane
use Rattle.drm_picture.specs.declared.picture.Picture.{Picture}
use Rattle.drm_picture.specs.declared.picture.Shape.{Shape}
use Rattle.drm_svg.specs.LaneBars.{is_waiting}
use Rattle.drm_svg.specs.declared.layout.LaneRows.{LaneRows}
use Rattle.drm_svg.specs.declared.layout.Layout.{Layout}
use Rattle.drm_svg.specs.declared.placing.Placed.{Placed}

abbrev pub same_lane : Lane → Lane → Bool
same_lane (lane.Ring a) (lane.Ring b) = a == b
same_lane (lane.Entity a) (lane.Entity b) = a == b
same_lane (lane.Buffer a) (lane.Buffer b) = a == b
same_lane (lane.Fence a) (lane.Fence b) = a == b
same_lane _ _ = false

-- the column of a command of the part, by its place there: of what is behind the part, the one behind the last
abbrev pub column_at : Picture → ℕ → ℕ
column_at picture place = slice_index_or picture.lefts.items place picture.width

-- the column of a command of the run: of what is before the part, the first
abbrev pub column_of : Picture → ℕ → ℕ
column_of picture place = column_at picture (place - picture.first)

-- the column where a bar begins: that of the command that begins it
abbrev pub left_of : Picture → Bar → ℕ
left_of picture bar = column_of picture bar.from

-- how many columns it lasts: to that of the command that ends it
abbrev pub width_of : Picture → Bar → ℕ
width_of picture bar = column_of picture (bar.from + bar.span) - left_of picture bar

-- a bar in a row, cut where the drawn part begins and ends
abbrev pub placed_at : Picture → ℕ → Bar → Placed
placed_at picture row bar = record { bar = bar; left = left_of picture bar; width = width_of picture bar; row = row }

-- the column behind the last of a bar
abbrev pub end_of : Placed → ℕ
end_of placed = placed.left + placed.width

-- the bars of which some are in a lane
abbrev pub bars_of_kind : Picture → Lane → List Bar
bars_of_kind picture (lane.Ring ring) = picture.jobs.items
bars_of_kind picture (lane.Entity entity) = picture.queued.items
bars_of_kind picture (lane.Buffer buffer) = picture.locks.items ++ picture.waiting.items
bars_of_kind picture (lane.Fence fence) = picture.fences.items

-- the bar is in the lane
abbrev pub is_in : Lane → Bar → Bool
is_in lane bar = same_lane bar.opening.lane lane

-- the bars of a lane
abbrev pub bars_in : Picture → Lane → List Bar
bars_in picture lane = filter (is_in lane) (bars_of_kind picture lane)

-- of two bars in one row the later begins where the earlier has ended, or behind
abbrev pub AreApart : Placed → Placed → Type 0
AreApart earlier later = earlier.row ≡ later.row → end_of earlier ≤ later.left

-- one of the bars is in the row, and ends behind the column
abbrev pub IsTaken : ℕ → ℕ → List Placed → Type 0
IsTaken row column bars = Any (λ bar. (bar.row ≡ row) × (column < end_of bar)) bars

-- each row from the first on that is above a bar is taken where it begins, by a bar before it in the list
abbrev pub EachRowAboveIsTaken : ℕ → List Placed → Type 0
EachRowAboveIsTaken first bars =
    (k : ℕ) (d : Placed) → k < length bars → (row : ℕ) → first ≤ row → row < (slice_index_or bars k d).row → IsTaken row (slice_index_or bars k d).left (take k bars)

-- the rows of a lane: a header, and below it those of the bars of the lane, as many as they need
pub record IsLaneRows (picture : Picture) (rows : LaneRows) : Type 0 where
  pub drawn : map (λ placed. placed.bar) rows.bars ≡ bars_in picture rows.lane
  pub cut : All (λ placed. placed ≡ placed_at picture placed.row placed.bar) rows.bars
  pub apart : AllPairs AreApart rows.bars
  pub first_free : EachRowAboveIsTaken (rows.top + 1) rows.bars
  pub within : All (λ placed. (rows.top < placed.row) × (placed.row < rows.bottom)) rows.bars
  pub needed : (row : ℕ) → rows.top < row → row < rows.bottom → Any (λ placed. placed.row ≡ row) rows.bars

-- what a function gives of each number below this one
abbrev pub below : (ℕ → Lane) → ℕ → List Lane
below lane zero = []
below lane (suc n) = below lane n ++ lane n ∷ []

-- the lanes from the top: the rings, the entities and the buffers
abbrev pub lanes_of : Shape → List Lane
lanes_of shape = below lane.Ring shape.rings ++ below lane.Entity shape.entities ++ below lane.Buffer shape.buffers

-- a ring that has bars has its credits below them
abbrev pub has_credits : Lane → List Placed → Bool
has_credits (lane.Ring ring) bars = nat_lt 0 (length bars)
has_credits _ bars = false

-- the row below a lane, and below the credits of a ring that has some
abbrev pub below_of : LaneRows → ℕ
below_of rows = if has_credits rows.lane rows.bars then rows.bottom + 1 else rows.bottom

-- lanes one below another, from a row to before another
abbrev pub AreStacked : ℕ → List LaneRows → ℕ → Type 0
AreStacked top [] bottom = top ≡ bottom
AreStacked top (rows ∷ below) bottom = (rows.top ≡ top) × AreStacked (below_of rows) below bottom

-- the rows of these lanes, in this order, one below another from the top of the picture
pub record AreLanes (picture : Picture) (lanes : List Lane) (rows : List LaneRows) (bottom : ℕ) : Type 0 where
  pub named : map (λ rows. rows.lane) rows ≡ lanes
  pub stacked : AreStacked 0 rows bottom
  pub each : All (IsLaneRows picture) rows

-- fences below a header, each in the row below that of the one before
abbrev pub fences_below : Picture → ℕ → List Bar → List Placed
fences_below picture header fences = map (λ p. placed_at picture (header + 1 + p.0) p.1) (enumerate_from 0 fences)

-- the lanes, and below them the fences
pub record IsLayout (picture : Picture) (layout : Layout) : Type 0 where
  pub lanes : AreLanes picture (lanes_of picture.shape) layout.lanes.items layout.header
  pub fences : layout.fences ≡ fences_below picture layout.header picture.fences.items

-- the row of a fence, or the header's where it is not drawn
abbrev pub row_of_fence : Layout → ℕ → ℕ
row_of_fence layout fence = option_map_or (λ placed. placed.row) (find (λ placed. placed.bar.opening.number == fence) layout.fences) layout.header

-- the header's row of a lane, or of the fences where it is not drawn
abbrev pub header_of : Layout → Lane → ℕ
header_of layout lane = option_map_or (λ rows. rows.top) (find (λ rows. same_lane rows.lane lane) layout.lanes.items) layout.header

-- where the marks of a lane are
abbrev pub row_of_lane : Layout → Lane → ℕ
row_of_lane layout (lane.Fence fence) = row_of_fence layout fence
row_of_lane layout lane = header_of layout lane

-- the bars in the lane of a buffer, if there are such
abbrev pub bars_of_buffer : Layout → Option ℕ → Option (List Placed)
bars_of_buffer layout (Some buffer) = option_map (λ rows. rows.bars) (find (λ rows. same_lane rows.lane (lane.Buffer buffer)) layout.lanes.items)
bars_of_buffer layout None = None

-- the bar of a job that waits for a buffer, in the lane of the buffer
abbrev pub waiting_bar : Layout → ℕ → ℕ → Option Placed
waiting_bar layout buffer fence = option_and_then (λ rows. find (is_waiting fence) rows.bars) (find (λ rows. same_lane rows.lane (lane.Buffer buffer)) layout.lanes.items)

-- the bar has begun in this column, and not ended
abbrev pub lasts_in : ℕ → Placed → Bool
lasts_in column placed = nat_le placed.left column && nat_lt column (end_of placed)

-- the row of the bar, if there is one and it lasts in this column, and else this row
abbrev pub row_or : ℕ → Option Placed → ℕ → ℕ
row_or column (Some placed) row = if lasts_in column placed then placed.row else row
row_or column None row = row

-- where a job stands in a column: at its bar in the lane of the buffer if it waits there, and else at its fence
abbrev pub row_of_job : Layout → ℕ → Option ℕ → ℕ → ℕ
row_of_job layout column (Some buffer) fence = row_or column (waiting_bar layout buffer fence) (row_of_fence layout fence)
row_of_job layout column None fence = row_of_fence layout fence
