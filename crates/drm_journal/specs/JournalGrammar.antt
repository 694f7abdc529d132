-- The grammar of journals: the words of their lines, and the order of the lines.
use Rattle.std.specs.Prelude.{◌≡◌, ◌≤◌, ℕ, List, [], ◌∷◌, ◌++◌, length, map, codes, Option, Some, None}
use Rattle.std.specs.List.{AllByRecursion}
use Rattle.std.specs.Fmt.{decimal}
use Rattle.drm_types.specs.declared.outcome.Outcome.{Outcome}
use Rattle.drm_types.specs.declared.outcome.Outcome.TheVariants as outcome
use Rattle.drm_text.specs.Grammar.{AreBytes, text_of_lines}
use Rattle.drm_text.specs.Hexadecimal.{text_of_bytes}
use Rattle.drm_journal.specs.declared.journal.JournalJob.{JournalJob}
use Rattle.drm_parse.specs.Grammar.{IsNumber, Line, job_words, JobFits, SpellsHeader}
use Rattle.drm_journal.specs.Journal.{JournalParts, IsJournal}

-- the word of a status: of a job with this outcome, or with none
abbrev pub status_word : Option Outcome → List ℕ
status_word None = codes "0"
status_word (Some outcome.Good) = codes "1"
status_word (Some outcome.Cancelled) = codes "-125"
status_word (Some outcome.Stopped) = codes "-3"

abbrev pub record_words : JournalJob → Line
record_words armed = codes "job" ∷ decimal armed.ran ∷ status_word armed.outcome ∷ job_words armed.job

abbrev pub RecordFits : JournalJob → Type 0
RecordFits armed = IsNumber armed.ran × JobFits armed.job

abbrev pub final_words : List ℕ → Line
final_words bytes = codes "final" ∷ text_of_bytes bytes ∷ []

abbrev pub end_words : Line
end_words = codes "end" ∷ []

-- the text is a header, a line for each job, a line for the last bytes of each buffer, and `end`, and spells the
-- journal
unfoldable pub SpellsJournal : List ℕ → JournalParts → Type 0
SpellsJournal text journal =
    (header : List Line) × SpellsHeader header journal.spec
    × IsJournal journal × AllByRecursion RecordFits journal.jobs × AllByRecursion AreBytes journal.finals
    × (text ≡ text_of_lines (header ++ (map record_words journal.jobs ++ map final_words journal.finals ++ end_words ∷ [])))
    × (length text ≤ 1048576)
