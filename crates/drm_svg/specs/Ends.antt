-- The mark of the end of a script that leaves jobs without an outcome, or buffers that contexts hold.
use Rattle.std.specs.Prelude.{ℕ, Bool, true, false, ◌+◌, ◌==◌, ◌&&◌, ◌||◌, List, [], ◌++◌, codes, count_by, decimal, if◌then◌else◌, length, nat_lt}
use Rattle.drm_picture.specs.declared.bars.Bar.{Bar}
use Rattle.drm_picture.specs.declared.bars.Look.{Look}
use Rattle.drm_picture.specs.declared.bars.Look.TheVariants as look
use Rattle.drm_picture.specs.declared.picture.Picture.{Picture}
use Rattle.drm_svg.specs.declared.ends.TheConstants.{END, LINE, LINE_END, TITLE_END}
use Rattle.drm_svg.specs.declared.layout.Layout.{Layout}

-- the script ends with the part
abbrev pub ends_with : Picture → Bool
ends_with picture = picture.first + length picture.columns.items == picture.total

abbrev pub is_open : Look → Bool
is_open look.Open = true
is_open _ = false

-- how many of these bars have no end
abbrev pub open_of : List Bar → ℕ
open_of bars = count_by (λ bar. is_open bar.look) bars

-- something is left: a job without an outcome, whose fence has none, or a buffer that a context holds
abbrev pub leaves : Picture → Bool
leaves picture = nat_lt 0 (open_of picture.fences.items) || nat_lt 0 (open_of picture.locks.items)

-- the end is marked: the script ends with the part, and something is left
abbrev pub is_marked : Picture → Bool
is_marked picture = ends_with picture && leaves picture

-- so many jobs have no outcome
abbrev pub jobs_text : ℕ → List ℕ
jobs_text count = decimal count ++ (if count == 1 then codes " job has no outcome, " else codes " jobs have no outcome, ")

-- so many buffers are held
abbrev pub buffers_text : ℕ → List ℕ
buffers_text count = decimal count ++ (if count == 1 then codes " buffer is held" else codes " buffers are held")

-- what is left
abbrev pub left_text : Picture → List ℕ
left_text picture = jobs_text (open_of picture.fences.items) ++ buffers_text (open_of picture.locks.items)

-- a line behind the last column, from the top of the lanes to below the fences
unfoldable pub line_text : Picture → Layout → List ℕ
line_text picture layout = LINE.now ++ decimal picture.width ++ codes "0 0V" ++ decimal (layout.header + 1 + length layout.fences) ++ LINE_END.now

-- what the mark tells, and its line
unfoldable pub mark_text : Picture → Layout → List ℕ
mark_text picture layout = END.now ++ left_text picture ++ TITLE_END.now ++ line_text picture layout

-- the mark, if the end is marked
abbrev pub end_text : Picture → Layout → List ℕ
end_text picture layout = if is_marked picture then mark_text picture layout else []
