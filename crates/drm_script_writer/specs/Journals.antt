-- How a journal is written.
use Rattle.std.specs.Prelude.{◌≡◌, ℕ, ◌≤◌, List, [], ◌∷◌, ◌++◌, flat_map, length, codes, Ok, Option, Some, None}
use Rattle.drm_types.specs.declared.outcome.Outcome.{Outcome}
use Rattle.drm_answer.specs.Answers.{numbers, text_of_outcome}
use Rattle.drm_journal.specs.declared.journal.JournalJob.{JournalJob}
use Rattle.drm_journal.specs.Journal.{JournalParts, judge_journal}
use Rattle.drm_journal.specs.JournalGrammar.{SpellsJournal}
use Rattle.drm_script_writer.specs.Headers.{line_of_bytes, text_of_header}
use Rattle.drm_script_writer.specs.Jobs.{words_of_job}

-- the status of a job: of one with this outcome, or with none
abbrev pub text_of_status : Option Outcome → List ℕ
text_of_status None = codes " 0"
text_of_status (Some outcome) = text_of_outcome outcome

-- a job: how many of its packets ran, its status, and its words
unfoldable pub line_of_job : JournalJob → List ℕ
line_of_job armed =
    codes "job" ++ numbers (armed.ran ∷ []) ++ text_of_status armed.outcome ++ words_of_job armed.job ++ 10 ∷ []

-- the text of a journal
unfoldable pub text_of_journal : JournalParts → List ℕ
text_of_journal journal =
    text_of_header journal.spec
    ++ flat_map line_of_job journal.jobs
    ++ flat_map (line_of_bytes (codes "final ")) journal.finals
    ++ codes "end\n"

-- a text that is no longer than texts are spells the journal
abbrev pub SpellsIfShort : List ℕ → JournalParts → Type 0
SpellsIfShort text journal = length text ≤ 1048576 → SpellsJournal text journal

-- and is read as it
abbrev pub IsReadIfShort : List ℕ → JournalParts → Type 0
IsReadIfShort text journal = length text ≤ 1048576 → judge_journal text ≡ Ok journal
