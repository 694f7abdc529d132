-- The lines of waits.
use Rattle.std.specs.Prelude.{ℕ, List, [], ◌++◌, Option, Some, None, codes, decimal, find, if◌then◌else◌, nat_lt, option_map, slice_get}
use Rattle.drm_picture.specs.Waiting.{conflicts_at}
use Rattle.drm_picture.specs.declared.command.Request.{Request}
use Rattle.drm_picture.specs.declared.picture.Picture.{Picture}
use Rattle.drm_picture.specs.declared.waits.Wait.{Wait}
use Rattle.drm_svg.specs.Layout.{column_of, row_of_job}
use Rattle.drm_svg.specs.declared.layout.Layout.{Layout}
use Rattle.drm_svg.specs.declared.waits.TheConstants.{AT_BUFFER, DOT, DOT_END, LINE, WAIT, WAITS_FOR}

-- the first buffer that the later job declares at which it conflicts with the earlier one
abbrev pub first_conflict : Option Request → Option Request → Option ℕ
first_conflict earlier (Some later) = option_map (λ d. d.0) (find (λ d. conflicts_at d earlier) later.declared)
first_conflict earlier None = None

-- the buffer of a wait: there its job conflicts with the earlier one, or there is none where it only names that one's
-- fence
abbrev pub buffer_of : Picture → Wait → Option ℕ
buffer_of picture wait = first_conflict (slice_get picture.armed.items wait.earlier) (slice_get picture.armed.items wait.fence)

abbrev pub buffer_text : Option ℕ → List ℕ
buffer_text (Some buffer) = AT_BUFFER.now ++ decimal buffer
buffer_text None = []

-- what a wait tells
abbrev pub wait_title : Wait → Option ℕ → List ℕ
wait_title wait buffer = WAIT.now ++ decimal wait.fence ++ WAITS_FOR.now ++ decimal wait.earlier ++ buffer_text buffer

-- the height of that edge of a bar in this row which is nearer to another row
abbrev pub height_text : ℕ → ℕ → List ℕ
height_text row other = decimal row ++ (if nat_lt row other then codes "9" else codes "1")

-- a line in a column, between the bars in two rows
unfoldable pub line_text : ℕ → ℕ → ℕ → List ℕ
line_text column from to = LINE.now ++ decimal column ++ codes "7 " ++ height_text from to ++ codes "V" ++ height_text to from

-- the dot at its end
unfoldable pub dot_text : ℕ → ℕ → ℕ → List ℕ
dot_text column from to = DOT.now ++ decimal column ++ codes "7' cy='" ++ height_text to from ++ DOT_END.now

-- a line in a column with its dot
abbrev pub pin_text : ℕ → ℕ → ℕ → List ℕ
pin_text column from to = line_text column from to ++ dot_text column from to

-- a wait in a column, at a buffer if it has one: a line from the job that waits to a dot at the earlier one
unfoldable pub wait_in : Layout → Wait → ℕ → Option ℕ → List ℕ
wait_in layout wait column buffer = wait_title wait buffer ++ pin_text column (row_of_job layout column buffer wait.fence) (row_of_job layout column buffer wait.earlier)

-- a wait, in the column of its command
abbrev pub wait_text : Picture → Layout → Wait → List ℕ
wait_text picture layout wait = wait_in layout wait (column_of picture wait.place) (buffer_of picture wait)
