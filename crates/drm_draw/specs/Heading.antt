-- The title of a picture.
use Rattle.std.specs.Prelude.{ℕ, ◌+◌, ◌-◌, ◌==◌, List, [], ◌++◌, codes, decimal, if◌then◌else◌, length}
use Rattle.drm_picture.specs.declared.columns.Scale.{Scale}
use Rattle.drm_picture.specs.declared.columns.Scale.TheVariants as scale
use Rattle.drm_picture.specs.declared.picture.Picture.{Picture}
use Rattle.drm_picture.specs.declared.picture.Shape.{Shape}
use Rattle.drm_draw.specs.declared.heading.TheConstants.{FALL, FREE_COLUMN}

-- what of how many commands is drawn: so many from the first on
abbrev pub span_of : ℕ → ℕ → ℕ → List ℕ
span_of first count total =
    if count == 0 then codes "none of " ++ decimal total ++ codes " commands"
    else if count == 1 then codes "command " ++ decimal first ++ codes " of " ++ decimal total
    else codes "commands " ++ decimal first ++ codes " to " ++ decimal (first + (count - 1)) ++ codes " of " ++ decimal total

-- so many things of a kind
abbrev pub counted : ℕ → List ℕ → List ℕ → List ℕ
counted count one many = decimal count ++ (if count == 1 then one else many)

-- what the device has
abbrev pub device_of : Shape → List ℕ
device_of shape =
    counted shape.rings (codes " ring, ") (codes " rings, ")
    ++ counted shape.entities (codes " entity, ") (codes " entities, ")
    ++ counted shape.buffers (codes " buffer") (codes " buffers")

-- moments fall at the command with this place in the part, of which the first has this number
abbrev pub fall_text : ℕ → ℕ → List ℕ
fall_text first place = FALL.now ++ decimal (first + place)

-- what columns stand for other than commands, of which the first has this number
abbrev pub scale_text : ℕ → Scale → List ℕ
scale_text first scale.Command = []
scale_text first (scale.Moment unit) = FREE_COLUMN.now ++ counted unit (codes " moment") (codes " moments")
scale_text first (scale.Falling place) = fall_text first place

-- the title: what of how many commands is drawn, of which device, and what columns stand for
unfoldable pub heading_of : Picture → List ℕ
heading_of picture =
    span_of picture.first (length picture.columns.items) picture.total ++ codes "; " ++ device_of picture.shape ++ scale_text picture.first picture.scale
