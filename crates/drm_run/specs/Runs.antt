-- A run of a script by workers in threads: what is written is the journal of a report of its jobs.
use Rattle.std.specs.Prelude.{◌≡◌, ℕ, List, None, Option, Ok, Err, IfSome, length, map}
use Rattle.std.specs.Io.KnownBytes.{Appends, Keeps}
use Rattle.drm_types.specs.Limits.{spec_fault}
use Rattle.drm_buffer.specs.Stored.{AreIn}
use Rattle.drm_gpu.specs.declared.gpu.Closed.{Closed}
use Rattle.drm_workers.specs.declared.report.Report.{Report}
use Rattle.drm_workers.specs.Reports.{IsReport}
use Rattle.drm_script.specs.declared.run_script.RunScript.{RunScript}
use Rattle.drm_journal.specs.Journal.{JournalParts}
use Rattle.drm_script_writer.specs.Journals.{text_of_journal}
use Rattle.drm_journal.specs.Leaving.{AreLeft, journal_told}
use Rattle.drm_script.specs.Run.{judge_run}
use Rattle.drm_stream.specs.Transfer.{AppendsFront}
use Rattle.drm_engine.specs.declared.ending.Ending.{Ending}
use Rattle.drm_engine.specs.declared.ending.Ending.TheVariants as ending

-- the journal of what a device has left
abbrev pub journal_of : Closed → JournalParts
journal_of closed = journal_told closed.spec closed.records closed.buffers.bytes

-- what a device has left can be told as a journal
pub record IsTold (closed : Closed) : Type 0 where
  pub limits : spec_fault closed.spec ≡ None
  pub left : AreLeft closed.spec closed.records
  pub sizes : map length closed.buffers.bytes ≡ map length closed.spec.buffers
  pub inside : AreIn (length closed.spec.buffers) closed.buffers.out

-- a script that the input spells where it is known, and a report of a run of its jobs by n submitters, of whose journal
-- this holds
abbrev pub Reports : ℕ → Option (List ℕ) → (JournalParts → Type 0) → Type 0
Reports n input Hold =
    (script : RunScript) × IfSome input (λ text. judge_run text ≡ Ok script) × ((r : Report) × IsReport script.spec script.jobs n r × Hold (journal_of r.closed))

-- what each ending says of the input and of what the writer holds before and after: a worker gave up after so many
-- turns, and a run has no other ending
abbrev pub Runs : ℕ → ℕ → Option (List ℕ) → Option (List ℕ) → Option (List ℕ) → Ending → Type 0
Runs n turns input old new ending.Done = Reports n input (λ journal. Appends old new (text_of_journal journal))
Runs n turns input old new (ending.GaveUp worker spent) = (spent ≡ turns) × Keeps old new
Runs n turns input old new ending.NoThread = Keeps old new
Runs n turns input old new (ending.Fault fault) = IfSome input (λ text. judge_run text ≡ Err fault) × Keeps old new
Runs n turns input old new ending.NoMemory = Keeps old new
Runs n turns input old new ending.NoInput = Keeps old new
Runs n turns input old new ending.NoOutput = Reports n input (λ journal. AppendsFront old new (text_of_journal journal))
Runs n turns input old new other = ⊥
