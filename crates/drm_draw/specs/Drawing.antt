-- Pictures of runs: what is written is the picture of what the script that is read does.
use Rattle.std.specs.Prelude.{◌≡◌, ◌<◌, ℕ, List, Option, length, map, min, option_map}
use Rattle.std.specs.Io.KnownBytes.{Appends, Keeps}
use Rattle.drm_types.specs.declared.spec.DeviceSpec.{DeviceSpec}
use Rattle.drm_job.specs.declared.Draft.{Draft}
use Rattle.drm_state.specs.declared.answer.Answer.{Answer}
use Rattle.drm_core.specs.declared.event.Event.{Event}
use Rattle.drm_core.specs.Jobs.{job_of, with_job}
use Rattle.drm_picture.specs.declared.columns.Axis.{Axis}
use Rattle.drm_picture.specs.declared.command.Request.{Request}
use Rattle.drm_picture.specs.declared.command.Step.{Step}
use Rattle.drm_picture.specs.declared.picture.Picture.{Picture}
use Rattle.drm_picture.specs.declared.picture.Shape.{Shape}
use Rattle.drm_picture.specs.Pictures.{IsPicture, part_of}
use Rattle.drm_draw.specs.Page.{IsPage}
use Rattle.drm_script.specs.declared.script.Script.{Script}
use Rattle.drm_stream.specs.Transfer.{AppendsFront}
use Rattle.drm_engine.specs.Replaying.{AreAnswers, Replays, SpellsScript}
use Rattle.drm_engine.specs.declared.ending.Ending.{Ending}
use Rattle.drm_engine.specs.declared.ending.Ending.TheVariants as ending

-- what a command does: the event with the entity of the job that it brings
abbrev pub command_of : Event Draft → Event ℕ
command_of event = with_job (λ draft. draft.entity) event

-- a job, without its packets
abbrev pub request_of : Draft → Request
request_of draft = record { entity = draft.entity; credits = draft.credits; declared = draft.declared; after = draft.after }

-- the job that a command brings
abbrev pub request_in : Event Draft → Option Request
request_in event = option_map request_of (job_of event)

-- the lanes of a device, which has at most 64 of each
abbrev pub shape_of : DeviceSpec → Shape
shape_of spec = record { rings = min (length spec.rings) 64; entities = min (length spec.entities) 64; buffers = min (length spec.buffers) 64 }

-- what a step and an event ask for: a command, and the job that it brings
abbrev pub asked : Step → Event ℕ × Option Request
asked step = (step.command, step.request)

abbrev pub asked_by : Event Draft → Event ℕ × Option Request
asked_by event = (command_of event, request_in event)

-- each event with the answer to it
abbrev pub AreSteps : List (Event Draft) → List Answer → List Step → Type 0
AreSteps events answers steps = (map asked steps ≡ map asked_by events) × (map (λ step. step.answer) steps ≡ answers)

-- the credit limits of the rings of a device
abbrev pub limits_of : DeviceSpec → List ℕ
limits_of spec = map (λ ring. ring.credit_limit) spec.rings

-- the text of the picture of the part of these steps from one place to before another, on rings of these limits, with
-- this axis
abbrev pub IsDrawn : Shape → List ℕ → Axis → ℕ → ℕ → List Step → List ℕ → Type 0
IsDrawn shape limits axis from to steps text =
    (picture : Picture) × IsPicture shape axis from to steps picture × IsPage limits (part_of 0 from (part_of 0 to steps)) (part_of from to steps) picture text

-- the text of the picture of a part of what the script does
abbrev pub IsDrawnOf : Script → Axis → ℕ → ℕ → List ℕ → Type 0
IsDrawnOf script axis from to text =
    (answers : List Answer) × (steps : List Step) × AreAnswers script answers × AreSteps script.lines answers steps × IsDrawn (shape_of script.spec) (limits_of script.spec) axis from to steps text

-- how many commands of the script are in the part
abbrev pub IsTooLong : Script → ℕ → ℕ → Type 0
IsTooLong script from to =
    (answers : List Answer) × (steps : List Step) × AreAnswers script answers × AreSteps script.lines answers steps × (5000 < length (part_of from to steps))

-- what each ending says of a script that was read, and of what the writer holds before and after
abbrev pub DrawsScript : Script → Axis → ℕ → ℕ → Option (List ℕ) → Option (List ℕ) → Ending → Type 0
DrawsScript script axis from to old new ending.Done = (text : List ℕ) × IsDrawnOf script axis from to text × Appends old new text
DrawsScript script axis from to old new ending.TooMany = IsTooLong script from to × Keeps old new
DrawsScript script axis from to old new ending.NoMemory = Keeps old new
DrawsScript script axis from to old new ending.NoOutput = (text : List ℕ) × IsDrawnOf script axis from to text × AppendsFront old new text
DrawsScript script axis from to old new other = ⊥

-- what each ending says of the input and of what the writer holds before and after: a drawing has no other
abbrev pub Draws : Axis → ℕ → ℕ → Option (List ℕ) → Option (List ℕ) → Option (List ℕ) → Ending → Type 0
Draws axis from to input old new ending.Done = SpellsScript input (λ script. DrawsScript script axis from to old new ending.Done)
Draws axis from to input old new (ending.Fault fault) = Replays input old new (ending.Fault fault)
Draws axis from to input old new ending.TooMany = SpellsScript input (λ script. DrawsScript script axis from to old new ending.TooMany)
Draws axis from to input old new ending.NoMemory = Keeps old new
Draws axis from to input old new ending.NoInput = Keeps old new
Draws axis from to input old new ending.NoOutput = SpellsScript input (λ script. DrawsScript script axis from to old new ending.NoOutput)
Draws axis from to input old new other = ⊥
