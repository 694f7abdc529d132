-- The text of bars.
use Rattle.std.specs.Prelude.{ℕ, Bool, List, [], ◌∷◌, Option, Some, None, ◌++◌, ◌+◌, ◌/◌, codes, decimal, find, flat_map, if◌then◌else◌, length, nat_le}
use Rattle.std.specs.Option.{option_map_or}
use Rattle.drm_picture.specs.declared.bars.Bar.{Bar}
use Rattle.drm_picture.specs.declared.bars.Kind.{Kind}
use Rattle.drm_picture.specs.declared.bars.Kind.TheVariants as kind
use Rattle.drm_picture.specs.declared.bars.Look.{Look}
use Rattle.drm_picture.specs.declared.bars.Look.TheVariants as look
use Rattle.drm_picture.specs.declared.command.Request.{Request}
use Rattle.drm_picture.specs.declared.picture.Picture.{Picture}
use Rattle.drm_svg.specs.declared.bars.Fit.{Fit}
use Rattle.drm_svg.specs.declared.bars.Fit.TheVariants as fit
use Rattle.drm_svg.specs.Escape.{escaped}
use Rattle.drm_svg.specs.Layout.{placed_at, row_of_lane}
use Rattle.drm_svg.specs.Owners.{job_of, letters_text, uses_text}
use Rattle.drm_svg.specs.Signs.{class_of_kind, sign_of_look, word_of_look}
use Rattle.drm_svg.specs.Titles.{arrow_text, title_of, when_of, whose_of}
use Rattle.drm_svg.specs.declared.bars.TheConstants.{COLOUR, GROUP_END, HALT_HEIGHT, HEIGHT, TITLE}
use Rattle.drm_svg.specs.declared.layout.Layout.{Layout}
use Rattle.drm_svg.specs.declared.placing.Placed.{Placed}

-- the entity of a job, where the lane does not tell it
abbrev pub entity_label : Kind → Option Request → List ℕ
entity_label kind.Queued job = []
entity_label _ (Some job) = codes "/" ++ decimal job.entity
entity_label _ None = []

abbrev pub entity_text : Option ℕ → List ℕ
entity_text (Some entity) = codes "/" ++ decimal entity
entity_text None = []

-- a label that tells this entity, if there is one to tell
abbrev pub label_telling : Option ℕ → Bar → List ℕ
label_telling entity bar = decimal bar.opening.number ++ entity_text entity ++ sign_of_look bar.look

-- the number of its fence or context, the entity if there is one to tell, and the sign of its outcome
abbrev pub label_of : Option Request → Bar → List ℕ
label_of job bar = decimal bar.opening.number ++ entity_label bar.kind job ++ sign_of_look bar.look

-- the labels of a bar from the longest on: with the entity of its job and what that does with which buffers, with the
-- entity, and without
abbrev pub labels_of : Option Request → Bar → List (List ℕ)
labels_of job bar = (label_of job bar ++ letters_text bar.kind job) ∷ label_of job bar ∷ label_of None bar ∷ []

-- a label fits into so many columns, three characters to each
abbrev pub fits : ℕ → List ℕ → Bool
fits width label = nat_le ((length label + 2) / 3) width

-- the place of a label
unfoldable pub begin_of_label : Placed → List ℕ
begin_of_label bar = codes "<text x='" ++ decimal bar.left ++ codes "1' y='" ++ decimal bar.row ++ codes "7'>"

-- a label at the place of a bar
unfoldable pub text_at : Placed → List ℕ → List ℕ
text_at bar label = begin_of_label bar ++ label ++ codes "</text>"

-- the first of the labels that fits, if one does
abbrev pub label_text : Option Request → Placed → List ℕ
label_text job bar = option_map_or (text_at bar) (find (fits bar.width) (labels_of job bar.bar)) []

-- the label that is told to fit, if one is
abbrev pub told_text : Fit → Option Request → Placed → List ℕ
told_text fit.Long job bar = text_at bar (label_of job bar.bar ++ letters_text bar.bar.kind job)
told_text fit.Short job bar = text_at bar (label_of job bar.bar)
told_text fit.Bare job bar = text_at bar (label_of None bar.bar)
told_text fit.Nothing job bar = []

-- a job that is to be skipped is hatched
abbrev pub class_of : Bar → List ℕ
class_of bar = if bar.opening.skipped then codes " skipped" else codes ""

-- what a bar tells
unfoldable pub title_text : Option Request → Bar → List ℕ
title_text job bar = codes "<g class='" ++ class_of_kind bar.kind ++ TITLE.now ++ escaped (title_of job bar)

-- its place and its size
unfoldable pub place_text : Placed → List ℕ
place_text bar = codes "' x='" ++ decimal bar.left ++ codes "0' y='" ++ decimal bar.row ++ codes "1' width='" ++ decimal bar.width ++ HEIGHT.now

-- the class of the bars of jobs of an entity
abbrev pub class_of_entity : ℕ → List ℕ
class_of_entity entity = codes "e" ++ decimal entity

abbrev pub paint_text : Option Request → List ℕ
paint_text (Some job) = class_of_entity job.entity ++ codes " "
paint_text None = []

-- its colour, which is that of the entity of its job, and its edge, which tells the outcome
abbrev pub colour_text : Option Request → Bar → List ℕ
colour_text job bar = COLOUR.now ++ paint_text job ++ word_of_look bar.look ++ class_of bar

-- the same up to what its job does with which buffers
unfoldable pub front_text : Option Request → Bar → List ℕ
front_text job bar = codes "<g class='" ++ class_of_kind bar.kind ++ TITLE.now ++ whose_of job bar ++ uses_text job

-- what it tells behind that, and its colour
unfoldable pub behind_text : Option Request → Bar → List ℕ
behind_text job bar = when_of bar ++ arrow_text bar.look ++ colour_text job bar

-- the bar of a job, or of none
unfoldable pub bar_text : Option Request → Placed → List ℕ
bar_text job bar = title_text job bar.bar ++ colour_text job bar.bar ++ place_text bar ++ label_text job bar ++ GROUP_END.now

-- bars of a picture
abbrev pub bars_text : Picture → List Placed → List ℕ
bars_text picture bars = flat_map (λ bar. bar_text (job_of picture bar.bar) bar) bars

-- the line of a header in which the bar of a stopped entity lies: one that is guilty and cancelled has two
abbrev pub line_of : Look → List ℕ
line_of look.Guilty = codes "8"
line_of _ = codes "9"

-- its place and its size
unfoldable pub halt_place_text : Placed → List ℕ
halt_place_text bar =
    codes "' x='" ++ decimal bar.left ++ codes "0' y='" ++ decimal bar.row ++ line_of bar.bar.look ++ codes "' width='" ++ decimal bar.width ++ HALT_HEIGHT.now

-- such a bar, below the marks
unfoldable pub halt_text : Placed → List ℕ
halt_text bar = title_text None bar.bar ++ colour_text None bar.bar ++ halt_place_text bar

-- the bars of the entities that were stopped, each in the header of its lane
abbrev pub halts_text : Picture → Layout → List ℕ
halts_text picture layout = flat_map (λ bar. halt_text (placed_at picture (row_of_lane layout bar.opening.lane) bar)) picture.stopped.items
