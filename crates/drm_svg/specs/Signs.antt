-- The words, colours and shapes of what is drawn.
use Rattle.std.specs.Prelude.{ℕ, List, [], ◌∷◌, ◌++◌, codes, decimal}
use Rattle.drm_picture.specs.declared.bars.Kind.{Kind}
use Rattle.drm_picture.specs.declared.bars.Kind.TheVariants as kind
use Rattle.drm_picture.specs.declared.bars.Lane.{Lane}
use Rattle.drm_picture.specs.declared.bars.Lane.TheVariants as lane
use Rattle.drm_picture.specs.declared.bars.Look.{Look}
use Rattle.drm_picture.specs.declared.bars.Look.TheVariants as look
use Rattle.drm_picture.specs.declared.marks.Sign.{Sign}
use Rattle.drm_picture.specs.declared.marks.Sign.TheVariants as sign

-- the name of a lane
abbrev pub name_of : Lane → List ℕ
name_of (lane.Ring ring) = codes "ring " ++ decimal ring
name_of (lane.Entity entity) = codes "entity " ++ decimal entity
name_of (lane.Buffer buffer) = codes "buffer " ++ decimal buffer
name_of (lane.Fence fence) = codes "fence " ++ decimal fence

-- the class of the bars of a kind
abbrev pub class_of_kind : Kind → List ℕ
class_of_kind kind.Job = codes "job"
class_of_kind kind.Queued = codes "queued"
class_of_kind kind.Stopped = codes "halt"
class_of_kind kind.Lock = codes "lock"
class_of_kind kind.Fence = codes "fence"
class_of_kind kind.Waiting = codes "waiting"

-- the word of a look, which is also the class of its edge
abbrev pub word_of_look : Look → List ℕ
word_of_look look.Open = codes "open"
word_of_look look.Ended = codes "ended"
word_of_look look.Good = codes "good"
word_of_look look.Cancelled = codes "cancelled"
word_of_look look.Stopped = codes "stopped"
word_of_look look.Guilty = codes "guilty"

-- the sign of a look, which is a question mark (63) where there is no outcome
abbrev pub sign_of_look : Look → List ℕ
sign_of_look look.Open = 63 ∷ []
sign_of_look look.Ended = []
sign_of_look look.Good = codes "+"
sign_of_look look.Cancelled = codes "-"
sign_of_look look.Stopped = codes "x"
sign_of_look look.Guilty = codes "x"

-- what a mark says
abbrev pub word_of_sign : Sign → List ℕ
word_of_sign sign.Ran = codes "a packet ran"
word_of_sign sign.Stalled = codes "stalled"
word_of_sign sign.Hang = codes "a hang and a reset"
word_of_sign sign.Guilty = codes "guilty"
word_of_sign sign.Refused = codes "refused"
word_of_sign sign.Given = codes "bytes given"
word_of_sign sign.Contended = codes "held by another"
word_of_sign sign.Granted = codes "ok"
word_of_sign sign.Planned = codes "planned"

-- how it is drawn
abbrev pub shape_of : Sign → List ℕ
shape_of sign.Ran = codes "<path d='M5 1v6'/>"
shape_of sign.Stalled = codes "<circle cx='5' cy='4' r='2.5'/>"
shape_of sign.Hang = codes "<path d='M6 0l-3 4h4l-3 4'/>"
shape_of sign.Guilty = codes "<path class='guilty' d='M5 1l3 6h-6z'/>"
shape_of sign.Refused = codes "<path class='refused' d='M2 1l6 6m0 -6l-6 6'/>"
shape_of sign.Given = codes "<path class='given' d='M2 4l2 3l4 -6'/>"
shape_of sign.Contended = codes "<path d='M5 1l3 3l-3 3l-3 -3z'/>"
shape_of sign.Granted = codes "<path d='M2 4h6'/>"
shape_of sign.Planned = codes "<path d='M2 2h6v4h-6z'/>"
