use Rattle.std.proofs.Common.{◌≡◌, ◌++◌, drop, take}
use Rattle.std.specs.Prelude.{flat_map}
use Rattle.std.specs.List.{AllByRecursion}
use Rattle.drm_journal.specs.JournalGrammar.{RecordFits}
use Rattle.drm_script_writer.specs.Journals.{line_of_job}
use Rattle.drm_script_writer.proofs.journal.put_records.Given as goal

abbrev pub invariant-loop-armed : goal.invariant-loop-armed
invariant-loop-armed l =
    (l.out.items ++ flat_map line_of_job (drop l.armed-index l.jobs) ≡ l.fn.out.items ++ flat_map line_of_job l.jobs)
    × AllByRecursion RecordFits (take l.armed-index l.jobs)
