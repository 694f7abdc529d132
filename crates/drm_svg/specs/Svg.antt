-- The text of what is in a picture.
use Rattle.std.specs.Prelude.{ℕ, List, ◌++◌, codes, decimal, flat_map}
use Rattle.drm_picture.specs.declared.marks.Mark.{Mark}
use Rattle.drm_picture.specs.declared.picture.Picture.{Picture}
use Rattle.drm_svg.specs.Bars.{halts_text}
use Rattle.drm_svg.specs.Axis.{axis_text}
use Rattle.drm_svg.specs.Ends.{end_text}
use Rattle.drm_svg.specs.Head.{columns_text, fences_text, lane_text}
use Rattle.drm_svg.specs.Layout.{column_of, row_of_lane}
use Rattle.drm_svg.specs.Signs.{name_of, shape_of, word_of_sign}
use Rattle.drm_svg.specs.Waits.{wait_text}
use Rattle.drm_svg.specs.declared.layout.Layout.{Layout}
use Rattle.drm_svg.specs.declared.svg.TheConstants.{MARK, MARK_TITLE}

-- where a mark is: in the column of its command, in the header of its lane
abbrev pub mark_place : Picture → Layout → Mark → List ℕ
mark_place picture layout mark = MARK.now ++ decimal (column_of picture mark.place) ++ codes "0 " ++ decimal (row_of_lane layout mark.lane) ++ codes "0"

-- what it tells
abbrev pub mark_title : Mark → List ℕ
mark_title mark = MARK_TITLE.now ++ name_of mark.lane ++ codes ", command " ++ decimal mark.place ++ codes ": " ++ word_of_sign mark.sign ++ codes "</title>"

-- a mark
unfoldable pub mark_text : Picture → Layout → Mark → List ℕ
mark_text picture layout mark = mark_place picture layout mark ++ mark_title mark ++ shape_of mark.sign ++ codes "</g>\n"

-- the lanes, the fences, the columns, the axis, the waits, the stopped entities, the marks, and the mark of the end
unfoldable pub inside_text : Picture → Layout → List ℕ
inside_text picture layout =
    flat_map (lane_text picture) layout.lanes.items
    ++ fences_text picture layout
    ++ columns_text picture
    ++ axis_text picture
    ++ flat_map (wait_text picture layout) picture.waits.items
    ++ halts_text picture layout
    ++ flat_map (mark_text picture layout) picture.marks.items
    ++ end_text picture layout
