-- The grammar of scripts: a header, and on each further line the words of a command.
use Rattle.std.specs.Prelude.{◌≡◌, ℕ, ◌^◌, ◌-◌, ◌≤◌, List, [], ◌∷◌, ◌++◌, length, map, codes}
use Rattle.std.specs.List.{AllByRecursion}
use Rattle.std.specs.Fmt.{decimal}
use Rattle.drm_core.specs.declared.event.Event.{Event}
use Rattle.drm_core.specs.declared.event.Event.TheVariants as event
use Rattle.drm_types.specs.declared.spec.DeviceSpec.{DeviceSpec}
use Rattle.drm_job.specs.declared.Draft.{Draft}
use Rattle.drm_text.specs.Grammar.{IsName, text_of_lines}
use Rattle.drm_script.specs.declared.script.Script.{Script}
use Rattle.drm_parse.specs.Grammar.{IsNumber, Line, job_words, JobFits, SpellsHeader}

abbrev pub IsMoment : ℕ → Type 0
IsMoment now = now ≤ 2 ^ 64 - 1

-- the words of a command line
abbrev pub command_words : Event Draft → List (List ℕ)
command_words (event.Submit job) = codes "submit" ∷ job_words job
command_words (event.Begin ctx) = codes "begin" ∷ decimal ctx ∷ []
command_words (event.Try ctx buffer) = codes "try" ∷ decimal ctx ∷ decimal buffer ∷ []
command_words (event.Done ctx) = codes "done" ∷ decimal ctx ∷ []
command_words (event.Drop ctx buffer) = codes "drop" ∷ decimal ctx ∷ decimal buffer ∷ []
command_words (event.End ctx) = codes "end" ∷ decimal ctx ∷ []
command_words (event.Plan ctx job) = codes "plan" ∷ decimal ctx ∷ job_words job
command_words (event.Arm ctx) = codes "arm" ∷ decimal ctx ∷ []
command_words (event.Pick ring now) = codes "pick" ∷ decimal ring ∷ decimal now ∷ []
command_words (event.Step ring) = codes "step" ∷ decimal ring ∷ []
command_words (event.Finish ring now) = codes "finish" ∷ decimal ring ∷ decimal now ∷ []
command_words (event.Timeout ring now) = codes "timeout" ∷ decimal ring ∷ decimal now ∷ []
command_words (event.Cancel entity) = codes "cancel" ∷ decimal entity ∷ []
command_words (event.Reap entity) = codes "reap" ∷ decimal entity ∷ []
command_words (event.Read ctx buffer) = codes "read" ∷ decimal ctx ∷ decimal buffer ∷ []
command_words (event.Status fence) = codes "fence" ∷ decimal fence ∷ []
command_words (event.Dump buffer) = codes "dump" ∷ decimal buffer ∷ []

-- what a command names is there, and its numbers are in their ranges
abbrev pub CommandFits : DeviceSpec → Event Draft → Type 0
CommandFits spec (event.Submit job) = JobFits job
CommandFits spec (event.Begin ctx) = IsName 64 ctx
CommandFits spec (event.Try ctx buffer) = IsName 64 ctx × IsName (length spec.buffers) buffer
CommandFits spec (event.Done ctx) = IsName 64 ctx
CommandFits spec (event.Drop ctx buffer) = IsName 64 ctx × IsName (length spec.buffers) buffer
CommandFits spec (event.End ctx) = IsName 64 ctx
CommandFits spec (event.Plan ctx job) = IsName 64 ctx × JobFits job
CommandFits spec (event.Arm ctx) = IsName 64 ctx
CommandFits spec (event.Pick ring now) = IsName (length spec.rings) ring × IsMoment now
CommandFits spec (event.Step ring) = IsName (length spec.rings) ring
CommandFits spec (event.Finish ring now) = IsName (length spec.rings) ring × IsMoment now
CommandFits spec (event.Timeout ring now) = IsName (length spec.rings) ring × IsMoment now
CommandFits spec (event.Cancel entity) = IsName (length spec.entities) entity
CommandFits spec (event.Reap entity) = IsName (length spec.entities) entity
CommandFits spec (event.Read ctx buffer) = IsName 64 ctx × IsName (length spec.buffers) buffer
CommandFits spec (event.Status fence) = IsNumber fence
CommandFits spec (event.Dump buffer) = IsName (length spec.buffers) buffer

-- the text is a header and command lines, and spells the script
unfoldable pub SpellsScript : List ℕ → Script → Type 0
SpellsScript text script =
    (header : List Line) × SpellsHeader header script.spec
    × AllByRecursion (CommandFits script.spec) script.lines
    × (text ≡ text_of_lines (header ++ map command_words script.lines))
    × (length text ≤ 1048576)
