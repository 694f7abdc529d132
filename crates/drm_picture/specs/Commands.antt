-- What a command tells of itself.
use Rattle.std.specs.Prelude.{ℕ, List, Option, Some, None, codes}
use Rattle.drm_picture.specs.declared.bars.Lane.{Lane}
use Rattle.drm_picture.specs.declared.bars.Lane.TheVariants as lane
use Rattle.drm_core.specs.declared.event.Event.{Event}
use Rattle.drm_core.specs.declared.event.Event.TheVariants as event

-- the word of the command
abbrev pub word_of : Event ℕ → List ℕ
word_of (event.Submit entity) = codes "submit"
word_of (event.Begin ctx) = codes "begin"
word_of (event.Try ctx buffer) = codes "try"
word_of (event.Done ctx) = codes "done"
word_of (event.Drop ctx buffer) = codes "drop"
word_of (event.End ctx) = codes "end"
word_of (event.Plan ctx entity) = codes "plan"
word_of (event.Arm ctx) = codes "arm"
word_of (event.Pick ring now) = codes "pick"
word_of (event.Step ring) = codes "step"
word_of (event.Finish ring now) = codes "finish"
word_of (event.Timeout ring now) = codes "timeout"
word_of (event.Cancel entity) = codes "cancel"
word_of (event.Reap entity) = codes "reap"
word_of (event.Read ctx buffer) = codes "read"
word_of (event.Status fence) = codes "fence"
word_of (event.Dump buffer) = codes "dump"

-- the moment that it tells
abbrev pub moment_of : Event ℕ → Option ℕ
moment_of (event.Pick ring now) = Some now
moment_of (event.Finish ring now) = Some now
moment_of (event.Timeout ring now) = Some now
moment_of _ = None

-- the lane of what it names
abbrev pub lane_of : Event ℕ → Option Lane
lane_of (event.Submit entity) = Some (lane.Entity entity)
lane_of (event.Plan ctx entity) = Some (lane.Entity entity)
lane_of (event.Cancel entity) = Some (lane.Entity entity)
lane_of (event.Reap entity) = Some (lane.Entity entity)
lane_of (event.Try ctx buffer) = Some (lane.Buffer buffer)
lane_of (event.Drop ctx buffer) = Some (lane.Buffer buffer)
lane_of (event.Read ctx buffer) = Some (lane.Buffer buffer)
lane_of (event.Dump buffer) = Some (lane.Buffer buffer)
lane_of (event.Pick ring now) = Some (lane.Ring ring)
lane_of (event.Step ring) = Some (lane.Ring ring)
lane_of (event.Finish ring now) = Some (lane.Ring ring)
lane_of (event.Timeout ring now) = Some (lane.Ring ring)
lane_of (event.Status fence) = Some (lane.Fence fence)
lane_of _ = None
