-- How a script is written.
use Rattle.std.specs.Prelude.{◌≡◌, ℕ, ◌≤◌, List, [], ◌∷◌, ◌++◌, flat_map, length, codes, IfSome, Ok}
use Rattle.std.specs.Option.{option_map_or}
use Rattle.drm_types.specs.declared.spec.DeviceSpec.{DeviceSpec}
use Rattle.drm_job.specs.declared.Draft.{Draft}
use Rattle.drm_core.specs.declared.event.Event.{Event}
use Rattle.drm_core.specs.declared.event.Event.TheVariants as event
use Rattle.drm_core.specs.Jobs.{job_of}
use Rattle.drm_parse.specs.Grammar.{IsNumber, JobFits}
use Rattle.drm_answer.specs.Answers.{numbers}
use Rattle.drm_script.specs.declared.script.Script.{Script}
use Rattle.drm_script.specs.Grammar.{IsMoment, SpellsScript}
use Rattle.drm_script.specs.Script.{judge_script}
use Rattle.drm_script_writer.specs.Headers.{text_of_header}
use Rattle.drm_script_writer.specs.Jobs.{words_of_job}

-- the word of a command, and its numbers up to the job that it brings
abbrev pub front_of_command : {J : Type 0} → Event J → List ℕ
front_of_command (event.Submit job) = codes "submit"
front_of_command (event.Begin ctx) = codes "begin" ++ numbers (ctx ∷ [])
front_of_command (event.Try ctx buffer) = codes "try" ++ numbers (ctx ∷ buffer ∷ [])
front_of_command (event.Done ctx) = codes "done" ++ numbers (ctx ∷ [])
front_of_command (event.Drop ctx buffer) = codes "drop" ++ numbers (ctx ∷ buffer ∷ [])
front_of_command (event.End ctx) = codes "end" ++ numbers (ctx ∷ [])
front_of_command (event.Plan ctx job) = codes "plan" ++ numbers (ctx ∷ [])
front_of_command (event.Arm ctx) = codes "arm" ++ numbers (ctx ∷ [])
front_of_command (event.Pick ring now) = codes "pick" ++ numbers (ring ∷ now ∷ [])
front_of_command (event.Step ring) = codes "step" ++ numbers (ring ∷ [])
front_of_command (event.Finish ring now) = codes "finish" ++ numbers (ring ∷ now ∷ [])
front_of_command (event.Timeout ring now) = codes "timeout" ++ numbers (ring ∷ now ∷ [])
front_of_command (event.Cancel entity) = codes "cancel" ++ numbers (entity ∷ [])
front_of_command (event.Reap entity) = codes "reap" ++ numbers (entity ∷ [])
front_of_command (event.Read ctx buffer) = codes "read" ++ numbers (ctx ∷ buffer ∷ [])
front_of_command (event.Status fence) = codes "fence" ++ numbers (fence ∷ [])
front_of_command (event.Dump buffer) = codes "dump" ++ numbers (buffer ∷ [])

-- its line: behind them stand the words of the job
abbrev pub line_of_command : Event Draft → List ℕ
line_of_command e = front_of_command e ++ option_map_or words_of_job (job_of e) [] ++ 10 ∷ []

-- the numbers of an event that name no part of the device are in the ranges of texts
abbrev pub FrontFits : {J : Type 0} → Event J → Type 0
FrontFits (event.Pick ring now) = IsMoment now
FrontFits (event.Finish ring now) = IsMoment now
FrontFits (event.Timeout ring now) = IsMoment now
FrontFits (event.Status fence) = IsNumber fence
FrontFits other = Unit {0}

-- and so are those of its job
abbrev pub NumbersFit : Event Draft → Type 0
NumbersFit e = FrontFits e × IfSome (job_of e) JobFits

-- ---- scripts

unfoldable pub text_of_script : DeviceSpec → List (Event Draft) → List ℕ
text_of_script spec events = text_of_header spec ++ flat_map line_of_command events

abbrev pub script_with : DeviceSpec → List (Event Draft) → Script
script_with spec events = record { spec = spec; lines = events }

-- a text that is no longer than texts are spells the script
abbrev pub SpellsIfShort : List ℕ → DeviceSpec → List (Event Draft) → Type 0
SpellsIfShort text spec events = length text ≤ 1048576 → SpellsScript text (script_with spec events)

-- and is read as it
abbrev pub IsReadIfShort : List ℕ → DeviceSpec → List (Event Draft) → Type 0
IsReadIfShort text spec events = length text ≤ 1048576 → judge_script text ≡ Ok (script_with spec events)
