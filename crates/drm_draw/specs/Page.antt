-- The page of a picture: its size, its title, what is in it, and its legend.
use Rattle.std.specs.Prelude.{◌≡◌, ℕ, zero, suc, ◌+◌, ◌-◌, ◌*◌, ◌/◌, ◌%◌, ◌==◌, Option, Some, None, List, [], ◌++◌, codes, decimal, fold, if◌then◌else◌, length, max, nat_lt}
use Rattle.drm_core.specs.declared.event.Event.{Event}
use Rattle.drm_picture.specs.Commands.{moment_of}
use Rattle.drm_picture.specs.declared.picture.Picture.{Picture}
use Rattle.drm_svg.specs.Bars.{class_of_entity}
use Rattle.drm_svg.specs.Layout.{IsLayout}
use Rattle.drm_svg.specs.Svg.{inside_text}
use Rattle.drm_svg.specs.declared.layout.Layout.{Layout}
use Rattle.drm_picture.specs.declared.command.Step.{Step}
use Rattle.drm_draw.specs.Credits.{credits_text}
use Rattle.drm_draw.specs.Heading.{heading_of}
use Rattle.drm_draw.specs.Keys.{keys_text}
use Rattle.drm_draw.specs.Legend.{legend_of}
use Rattle.drm_draw.specs.declared.page.Frame.{Frame}
use Rattle.drm_draw.specs.declared.page.TheConstants.{HEAD, HEADING, PAGE_END, PATTERN, PATTERN_CLASS, PATTERN_END, PATTERN_FILL, PATTERN_RULE, PATTERN_TURN, STYLE, VIEW}

-- how many columns a text takes, four pixels to a character and one to begin with
abbrev pub columns_of_text : List ℕ → ℕ
columns_of_text text = (4 * length text + 11) / 10

-- how many columns a page has: four for names, those of the picture and one behind them, and as many as its title needs
abbrev pub columns_of : Picture → ℕ
columns_of picture = max (picture.width + 5) (columns_of_text (heading_of picture))

abbrev pub greater_of : Option ℕ → Option ℕ → Option ℕ
greater_of (Some a) (Some b) = Some (max a b)
greater_of None b = b
greater_of a None = a

-- the greatest moment that these commands tell, if one does
abbrev pub greatest_of : List (Event ℕ) → Option ℕ
greatest_of commands = fold (λ most command. greater_of most (moment_of command)) None commands

-- how many rows the words of commands take above the columns, and their moments above the words
abbrev pub word_rows : List (Event ℕ) → ℕ
word_rows commands = if length commands == 0 then 0 else 3

abbrev pub moment_rows : Option ℕ → ℕ
moment_rows (Some now) = columns_of_text (decimal now)
moment_rows None = 0

-- how many rows are above the lanes: the title, the words and the moments
abbrev pub rows_above : Picture → ℕ
rows_above picture = 1 + word_rows picture.columns.items + moment_rows (greatest_of picture.columns.items)

-- how many keys of the legend stand in a row, eleven columns to each
abbrev pub keys_in_row : Picture → ℕ
keys_in_row picture = max 1 (columns_of picture / 11)

-- the first row of the legend: one is free below the fences
abbrev pub legend_row : Layout → ℕ
legend_row layout = layout.header + length layout.fences + 2

-- how many rows so many keys take
abbrev pub rows_of_keys : ℕ → ℕ → ℕ
rows_of_keys wide keys = (keys + (wide - 1)) / wide

abbrev pub rows_of : Picture → Layout → ℕ
rows_of picture layout = rows_above picture + (legend_row layout + rows_of_keys (keys_in_row picture) (length (legend_of picture)))

-- the size, in columns and rows
unfoldable pub size_text : ℕ → ℕ → List ℕ
size_text columns rows = HEAD.now ++ decimal columns ++ codes "pc' height='" ++ decimal rows

-- how much is shown, with so many rows above the lanes, and the colours
unfoldable pub view_text : ℕ → ℕ → ℕ → List ℕ
view_text columns rows above = VIEW.now ++ decimal above ++ codes "0 " ++ decimal columns ++ codes "0 " ++ decimal rows ++ STYLE.now

-- the title in the first row
unfoldable pub heading_text : ℕ → List ℕ → List ℕ
heading_text above heading = HEADING.now ++ decimal (above - 1) ++ codes "3'>" ++ heading ++ codes "</text>\n"

-- from the eighth on, an entity has the colour of the one that is seven before it, with stripes: each seven have their
-- own slant
unfoldable pub slant_text : ℕ → List ℕ
slant_text entity = PATTERN.now ++ class_of_entity entity ++ PATTERN_TURN.now ++ decimal (20 * (entity / 7))

unfoldable pub stripes_text : ℕ → List ℕ
stripes_text entity = slant_text entity ++ PATTERN_FILL.now ++ class_of_entity (entity % 7)

-- the rule that an entity has its pattern
unfoldable pub rule_text : ℕ → List ℕ
rule_text entity = PATTERN_CLASS.now ++ class_of_entity entity ++ PATTERN_RULE.now ++ class_of_entity entity ++ PATTERN_END.now

abbrev pub pattern_text : ℕ → List ℕ
pattern_text entity = if nat_lt entity 7 then [] else stripes_text entity ++ rule_text entity

-- the patterns of the entities below this number
abbrev pub patterns_text : ℕ → List ℕ
patterns_text zero = []
patterns_text (suc n) = patterns_text n ++ pattern_text n

-- the text of the page above what is in the picture, of so many columns and rows, and rows above the lanes
unfoldable pub top_text : Picture → ℕ → ℕ → ℕ → List ℕ
top_text picture columns rows above =
    size_text columns rows ++ view_text columns rows above ++ heading_text above (heading_of picture) ++ patterns_text picture.shape.entities

-- what of a page is where: its columns and rows, the rows above the lanes, the first row of the legend, and how many
-- keys stand in one
abbrev pub frame_of : Picture → Layout → Frame
frame_of picture layout = record {
  columns = columns_of picture;
  rows = rows_of picture layout;
  above = rows_above picture;
  legend = legend_row layout;
  wide = keys_in_row picture;
}

-- what is in a picture, and the credits of its rings
unfoldable pub content_text : List ℕ → List Step → List Step → Picture → Layout → List ℕ
content_text limits before part picture layout = inside_text picture layout ++ credits_text limits before part picture layout

-- the text of a page with this frame above its legend, on rings of these limits, of these steps behind others
unfoldable pub upper_text : Frame → List ℕ → List Step → List Step → Picture → Layout → List ℕ
upper_text frame limits before part picture layout = top_text picture frame.columns frame.rows frame.above ++ content_text limits before part picture layout

-- its legend, and the end of the page
unfoldable pub lower_text : Frame → Picture → List ℕ
lower_text frame picture = keys_text frame.wide frame.legend (legend_of picture) ++ PAGE_END.now

-- the text of the page of a picture that is laid out so
abbrev pub page_of : List ℕ → List Step → List Step → Picture → Layout → List ℕ
page_of limits before part picture layout =
    upper_text (frame_of picture layout) limits before part picture layout ++ lower_text (frame_of picture layout) picture

-- the text of a picture that is laid out as it is to be
abbrev pub IsPage : List ℕ → List Step → List Step → Picture → List ℕ → Type 0
IsPage limits before part picture text = (layout : Layout) × IsLayout picture layout × (text ≡ page_of limits before part picture layout)
