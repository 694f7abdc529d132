-- The lanes with their names and bars, and the columns.
use Rattle.std.specs.Prelude.{ℕ, List, [], ◌++◌, ◌+◌, ◌==◌, Option, Some, None, codes, decimal, flat_map, if◌then◌else◌, take}
use Rattle.std.specs.List.{enumerate_from}
use Rattle.drm_picture.specs.Columns.{last_moment}
use Rattle.drm_picture.specs.Commands.{moment_of, word_of}
use Rattle.drm_picture.specs.declared.bars.Lane.{Lane}
use Rattle.drm_core.specs.declared.event.Event.{Event}
use Rattle.drm_picture.specs.declared.picture.Picture.{Picture}
use Rattle.drm_svg.specs.Bars.{bars_text}
use Rattle.drm_svg.specs.Layout.{column_at}
use Rattle.drm_svg.specs.Signs.{name_of}
use Rattle.drm_svg.specs.declared.head.TheConstants.{ABOVE, LANE, TEXT_END, TITLE_END, TURNED}
use Rattle.drm_svg.specs.declared.layout.LaneRows.{LaneRows}
use Rattle.drm_svg.specs.declared.layout.Layout.{Layout}

-- the name of a lane left of its header
unfoldable pub lane_name_text : ℕ → Lane → List ℕ
lane_name_text row lane = LANE.now ++ decimal row ++ codes "7'>" ++ name_of lane ++ TEXT_END.now

-- the name of a lane, and its bars
abbrev pub lane_text : Picture → LaneRows → List ℕ
lane_text picture rows = lane_name_text rows.top rows.lane ++ bars_text picture rows.bars

-- the name of the fences left of their header
unfoldable pub fences_name_text : ℕ → List ℕ
fences_name_text row = LANE.now ++ decimal row ++ codes "7'>fences" ++ TEXT_END.now

-- the name of the fences, and their bars
abbrev pub fences_text : Picture → Layout → List ℕ
fences_text picture layout = fences_name_text layout.header ++ bars_text picture layout.fences

-- where a word above a column begins, and the number of the column's command
unfoldable pub above_text : ℕ → ℕ → ℕ → List ℕ → List ℕ
above_text first place column above = ABOVE.now ++ decimal column ++ codes "7 " ++ above ++ TURNED.now ++ decimal (first + place) ++ TITLE_END.now

-- a moment, if it differs from the one that was told last
abbrev pub new_moment : Option ℕ → Option ℕ → Option ℕ
new_moment (Some before) (Some now) = if before == now then None else Some now
new_moment None (Some now) = Some now
new_moment told None = None

abbrev pub moment_above : ℕ → ℕ → ℕ → Option ℕ → List ℕ
moment_above first place column (Some now) = above_text first place column (codes "-32") ++ decimal now ++ TEXT_END.now
moment_above first place column None = []

-- above a column the word of its command, and the moment that it tells, if it differs from the one told last
unfoldable pub column_text : ℕ → ℕ → ℕ → Option ℕ → Event ℕ → List ℕ
column_text first place column told command =
    above_text first place column (codes "-3") ++ word_of command ++ TEXT_END.now ++ moment_above first place column (new_moment told (moment_of command))

-- the column of the command at this place of a picture
abbrev pub column_in : Picture → ℕ × Event ℕ → List ℕ
column_in picture p = column_text picture.first p.0 (column_at picture p.0) (last_moment (take p.0 picture.columns.items)) p.1

-- the columns of a picture
abbrev pub columns_text : Picture → List ℕ
columns_text picture = flat_map (column_in picture) (enumerate_from 0 picture.columns.items)
