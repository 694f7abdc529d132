-- The journal of a script: what is written is that of a lawful run of what was read.
use Rattle.std.specs.Prelude.{◌≡◌, ℕ, List, Option}
use Rattle.std.specs.Io.KnownBytes.{Appends, Keeps}
use Rattle.drm_state.specs.declared.answer.Answer.{Answer}
use Rattle.drm_core.specs.State.{CoreState, opened}
use Rattle.drm_core.specs.Run.{LawfulRun}
use Rattle.drm_script_writer.specs.Journals.{text_of_journal}
use Rattle.drm_journal.specs.Leaving.{journal_left}
use Rattle.drm_script.specs.declared.script.Script.{Script}
use Rattle.drm_stream.specs.Transfer.{AppendsFront}
use Rattle.drm_engine.specs.Replaying.{Replays, SpellsScript}
use Rattle.drm_engine.specs.declared.ending.Ending.{Ending}
use Rattle.drm_engine.specs.declared.ending.Ending.TheVariants as ending

-- a lawful run of the script leads to this core
abbrev pub LeadsTo : Script → CoreState → Type 0
LeadsTo script final = (answers : List Answer) × LawfulRun (opened script.spec) script.lines answers final

-- the text is the journal of a core to which the script leads
abbrev pub IsRecordOf : Script → List ℕ → Type 0
IsRecordOf script text = (final : CoreState) × LeadsTo script final × (text ≡ text_of_journal (journal_left final))

-- what each ending says of a script that was read, and of what the writer holds before and after
abbrev pub RecordsScript : Script → Option (List ℕ) → Option (List ℕ) → Ending → Type 0
RecordsScript script old new ending.Done = (text : List ℕ) × IsRecordOf script text × Appends old new text
RecordsScript script old new ending.NoMemory = Keeps old new
RecordsScript script old new ending.NoOutput = (text : List ℕ) × IsRecordOf script text × AppendsFront old new text
RecordsScript script old new other = ⊥

-- what each ending says of the input and of what the writer holds before and after: it has no other
abbrev pub Records : Option (List ℕ) → Option (List ℕ) → Option (List ℕ) → Ending → Type 0
Records input old new ending.Done = SpellsScript input (λ script. RecordsScript script old new ending.Done)
Records input old new (ending.Fault fault) = Replays input old new (ending.Fault fault)
Records input old new ending.NoMemory = Keeps old new
Records input old new ending.NoInput = Keeps old new
Records input old new ending.NoOutput = SpellsScript input (λ script. RecordsScript script old new ending.NoOutput)
Records input old new other = ⊥
