-- Why jobs wait: what is written is told of a lawful run of what was read.
use Rattle.std.specs.Prelude.{◌≡◌, ℕ, List, Option, length}
use Rattle.std.specs.Io.KnownBytes.{Appends, Keeps}
use Rattle.drm_core.specs.State.{CoreState, opened}
use Rattle.drm_engine.specs.Replaying.{Replays, SpellsScript}
use Rattle.drm_engine.specs.declared.ending.Ending.{Ending}
use Rattle.drm_engine.specs.declared.ending.Ending.TheVariants as ending
use Rattle.drm_reason.specs.declared.reason.Reason.TheVariants.{NotArmed}
use Rattle.drm_script_writer.specs.Recording.{LeadsTo}
use Rattle.drm_script.specs.declared.script.Script.{Script}
use Rattle.drm_stream.specs.Transfer.{AppendsFront}
use Rattle.drm_why.specs.Lines.{text_of_jobs, text_of_life}
use Rattle.drm_why.specs.Longest.{LongestIs}
use Rattle.drm_why.specs.Rings.{SeesRows}
use Rattle.drm_why.specs.Seeing.{AreChanges, Sees, clock_of}
use Rattle.drm_why.specs.Totals.{TellsRings}
use Rattle.drm_why.specs.declared.rings.Row.{Row}
use Rattle.drm_why.specs.declared.seeing.Change.{Change}
use Rattle.drm_why.specs.declared.seeing.Seen.{Seen}
use Rattle.drm_why.specs.declared.asking.Question.{Question}
use Rattle.drm_why.specs.declared.asking.Question.TheVariants as question

-- the text tells these changes of a job in so many commands, the last of which leave this moment, and the one that held
-- the job up longest
abbrev pub TellsChanges : ℕ → ℕ → ℕ → List Change → List ℕ → Type 0
TellsChanges fence place clock changes text =
    (longest : Option ℕ) × LongestIs changes place (length changes) longest × (text ≡ text_of_life fence changes place clock longest)

-- it tells the changes of what was seen of the job behind each command
abbrev pub TellsSeen : ℕ → List Seen → List ℕ → Type 0
TellsSeen fence seens text = (changes : List Change) × AreChanges NotArmed 0 0 seens changes × TellsChanges fence (length seens) (clock_of seens) changes text

-- so it does of a job in a lawful run of the script
abbrev pub IsLife : Script → ℕ → List ℕ → Type 0
IsLife script fence text =
    (final : CoreState) × (seens : List Seen) × Sees fence NotArmed (opened script.spec) script.lines seens final × TellsSeen fence seens text

-- the text tells of each ring what it did in a lawful run of the script, behind each of its commands
abbrev pub AreRings : Script → List ℕ → Type 0
AreRings script text =
    (final : CoreState) × (rows : List Row) × SeesRows 0 (opened script.spec) script.lines rows final
    × TellsRings rows (length script.spec.rings) text

-- the text answers what is asked about the script
abbrev pub IsTold : Question → Script → List ℕ → Type 0
IsTold (question.Job fence) script text = IsLife script fence text
IsTold question.Jobs script text = (final : CoreState) × LeadsTo script final × (text ≡ text_of_jobs final.device)
IsTold question.Rings script text = AreRings script text

-- what each ending says of a script that was read, and of what the writer holds before and after
abbrev pub Tells : Question → Script → Option (List ℕ) → Option (List ℕ) → Ending → Type 0
Tells asked script old new ending.Done = (text : List ℕ) × IsTold asked script text × Appends old new text
Tells asked script old new ending.NoOutput = (text : List ℕ) × IsTold asked script text × AppendsFront old new text
Tells asked script old new ending.NoMemory = Keeps old new
Tells asked script old new other = ⊥

-- what each ending says of the input and of what the writer holds before and after: it has no other
abbrev pub Whys : Question → Option (List ℕ) → Option (List ℕ) → Option (List ℕ) → Ending → Type 0
Whys asked input old new ending.Done = SpellsScript input (λ script. Tells asked script old new ending.Done)
Whys asked input old new (ending.Fault fault) = Replays input old new (ending.Fault fault)
Whys asked input old new ending.NoMemory = Keeps old new
Whys asked input old new ending.NoInput = Keeps old new
Whys asked input old new ending.NoOutput = SpellsScript input (λ script. Tells asked script old new ending.NoOutput)
Whys asked input old new other = ⊥
