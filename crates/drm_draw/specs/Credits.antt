-- The text of the credits in use: a step line under the bars of each ring that has some.
use Rattle.std.specs.Prelude.{ℕ, ◌+◌, ◌-◌, ◌*◌, ◌/◌, ◌==◌, List, [], ◌∷◌, ◌++◌, codes, decimal, flat_map, if◌then◌else◌, max, slice_get, unwrap_or}
use Rattle.drm_picture.specs.declared.bars.Lane.{Lane}
use Rattle.drm_picture.specs.declared.bars.Lane.TheVariants as lane
use Rattle.drm_picture.specs.declared.picture.Picture.{Picture}
use Rattle.drm_picture.specs.declared.command.Step.{Step}
use Rattle.drm_svg.specs.Layout.{column_at, has_credits}
use Rattle.drm_svg.specs.declared.layout.LaneRows.{LaneRows}
use Rattle.drm_svg.specs.declared.layout.Layout.{Layout}
use Rattle.drm_draw.specs.Levels.{level_behind, level_of}
use Rattle.drm_draw.specs.declared.credits.TheConstants.{CREDITS, CREDITS_END, CREDITS_LINE, CREDITS_TEXT}

-- the height of a level in a row, where the limit is eight pixels high
unfoldable pub y_of : ℕ → ℕ → ℕ → ℕ
y_of row limit level = 10 * row + 9 - 8 * level / max 1 limit

-- a line goes on to a column, and there to a level
unfoldable pub turn_text : ℕ → ℕ → ℕ → ℕ → List ℕ
turn_text row limit column level = codes "H" ++ decimal column ++ codes "0V" ++ decimal (y_of row limit level)

-- the turn of a line from one level to the next, if they differ
abbrev pub turn_to : ℕ → ℕ → ℕ → ℕ → ℕ → List ℕ
turn_to row limit column level next = if next == level then [] else turn_text row limit column next

-- the credits of a ring in use behind a step of a picture
abbrev pub level_next : ℕ → ℕ → Picture → ℕ → Step → ℕ
level_next ring limit picture level step = level_behind ring limit picture.armed.items level step

-- the turns of the line of a ring: in the columns of these steps, from this place on, where a step changes the level
abbrev pub turns_text : ℕ → ℕ → Picture → ℕ → ℕ → ℕ → List Step → List ℕ
turns_text ring limit picture row place level [] = []
turns_text ring limit picture row place level (step ∷ steps) =
    turn_to row limit (column_at picture place) level (level_next ring limit picture level step)
    ++ turns_text ring limit picture row (place + 1) (level_next ring limit picture level step) steps

-- the turns of the line in all columns of a part
unfoldable pub all_turns : ℕ → ℕ → Picture → ℕ → ℕ → List Step → List ℕ
all_turns ring limit picture row level part = turns_text ring limit picture row 0 level part

-- what the line of a ring tells
unfoldable pub credits_title : ℕ → ℕ → List ℕ
credits_title ring limit = CREDITS.now ++ decimal ring ++ codes ", of " ++ decimal limit ++ codes "</title>"

-- the limit, left of the line
unfoldable pub limit_text : ℕ → ℕ → List ℕ
limit_text row limit = CREDITS_TEXT.now ++ decimal row ++ codes "7'>of " ++ decimal limit ++ codes "</text>"

-- to the end of the last column
unfoldable pub path_end : Picture → List ℕ
path_end picture = codes "H" ++ decimal picture.width ++ CREDITS_END.now

-- the line of a ring in a row: from the level behind the steps before the part to the end of its last column
unfoldable pub path_text : ℕ → ℕ → Picture → ℕ → ℕ → List Step → List ℕ
path_text ring limit picture row level part =
    CREDITS_LINE.now ++ decimal (y_of row limit level) ++ all_turns ring limit picture row level part ++ path_end picture

-- with what it tells, and its limit
unfoldable pub ring_text : ℕ → ℕ → Picture → ℕ → ℕ → List Step → List ℕ
ring_text ring limit picture row level part = credits_title ring limit ++ limit_text row limit ++ path_text ring limit picture row level part

-- the limit of a ring, of those of all rings
abbrev pub limit_of : List ℕ → ℕ → ℕ
limit_of limits ring = unwrap_or (slice_get limits ring) 0

abbrev pub lane_credits : List ℕ → List Step → List Step → Picture → Lane → ℕ → List ℕ
lane_credits limits before part picture (lane.Ring ring) row =
    ring_text ring (limit_of limits ring) picture row (level_of ring (limit_of limits ring) picture.armed.items before) part
lane_credits limits before part picture _ row = []

-- the line of a lane, if it has one
abbrev pub line_text : List ℕ → List Step → List Step → Picture → LaneRows → List ℕ
line_text limits before part picture rows = if has_credits rows.lane rows.bars then lane_credits limits before part picture rows.lane rows.bottom else []

-- the lines of all lanes
abbrev pub credits_text : List ℕ → List Step → List Step → Picture → Layout → List ℕ
credits_text limits before part picture layout = flat_map (line_text limits before part picture) layout.lanes.items
