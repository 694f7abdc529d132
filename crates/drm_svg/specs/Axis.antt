-- The axis of a picture by moments: a line between the words and the moments, with a tick in each column above which a
-- moment stands.
use Rattle.std.specs.Prelude.{ℕ, List, [], ◌++◌, Option, Some, None, codes, decimal, flat_map, take}
use Rattle.std.specs.List.{enumerate_from}
use Rattle.drm_picture.specs.Columns.{last_moment}
use Rattle.drm_picture.specs.Commands.{moment_of}
use Rattle.drm_core.specs.declared.event.Event.{Event}
use Rattle.drm_picture.specs.declared.columns.Scale.{Scale}
use Rattle.drm_picture.specs.declared.columns.Scale.TheVariants as scale
use Rattle.drm_picture.specs.declared.picture.Picture.{Picture}
use Rattle.drm_svg.specs.Head.{new_moment}
use Rattle.drm_svg.specs.Layout.{column_at}
use Rattle.drm_svg.specs.declared.axis.TheConstants.{AXIS, AXIS_END, TICK}

-- a tick in a column, if its command tells a new moment
abbrev pub tick_text : ℕ → Option ℕ → List ℕ
tick_text column (Some now) = codes "M" ++ decimal column ++ TICK.now
tick_text column None = []

-- the tick of the command at this place of a picture, if it has one
abbrev pub tick_in : Picture → ℕ × Event ℕ → List ℕ
tick_in picture p = tick_text (column_at picture p.0) (new_moment (last_moment (take p.0 picture.columns.items)) (moment_of p.1))

abbrev pub ticks_text : Picture → List ℕ
ticks_text picture = flat_map (tick_in picture) (enumerate_from 0 picture.columns.items)

-- the line over all columns, with its ticks
unfoldable pub line_text : Picture → List ℕ
line_text picture = AXIS.now ++ decimal picture.width ++ codes "0" ++ ticks_text picture ++ AXIS_END.now

abbrev pub axis_by : Scale → Picture → List ℕ
axis_by (scale.Moment unit) picture = line_text picture
axis_by _ picture = []

-- the axis, if the columns stand for moments
abbrev pub axis_text : Picture → List ℕ
axis_text picture = axis_by picture.scale picture
