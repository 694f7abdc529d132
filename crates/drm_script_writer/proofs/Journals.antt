-- The text of a journal is the lines of the grammar.
use Rattle.std.proofs.Common.{◌≡◌, ℕ, List, [], ◌∷◌, ◌++◌, append_assoc, map, Some, None, Option, refl, sym, ap, ◌∙◌}
use Rattle.std.specs.Prelude.{codes, flat_map}
use Rattle.std.specs.List.{AllByRecursion}
use Rattle.std.specs.Fmt.{decimal}
use Rattle.std.proofs.lemmas.Grind.{flat_map-append}
use Rattle.drm_types.specs.declared.outcome.Outcome.{Outcome}
use Rattle.drm_types.specs.declared.outcome.Outcome.TheVariants as outcome
use Rattle.drm_text.specs.Grammar.{line_of_words, text_of_lines}
use Rattle.drm_parse.specs.Grammar.{Line, job_words}
use Rattle.drm_journal.specs.declared.journal.JournalJob.{JournalJob}
use Rattle.drm_journal.specs.Journal.{IsJournal, JournalParts}
use Rattle.drm_journal.specs.JournalGrammar.{RecordFits, SpellsJournal, end_words, final_words, record_words, status_word}
use Rattle.drm_journal.proofs.JournalReaders.{body_lines}
use Rattle.drm_script_writer.specs.Headers.{DeviceFits, HasBytes, line_of_bytes}
use Rattle.drm_script_writer.specs.Jobs.{words_of_job}
use Rattle.drm_script_writer.specs.Journals.{SpellsIfShort, line_of_job, text_of_journal, text_of_status}
use Rattle.drm_script_writer.proofs.Filled.{as_sized, buffers_sized, filled}
use Rattle.drm_script_writer.proofs.Lines.{behind, each_line, header_is, header_lines, header_spells, job_is, joined, lines-append, numbers_behind}

status_is : (o : Option Outcome) → text_of_status o ≡ 32 ∷ status_word o
status_is None = refl
status_is (Some outcome.Good) = refl
status_is (Some outcome.Cancelled) = refl
status_is (Some outcome.Stopped) = refl

record_is : (armed : JournalJob) → line_of_job armed ≡ line_of_words (record_words armed)
unfolding line_of_job
record_is armed =
    let rest = status_word armed.outcome ∷ job_words armed.job in
    ap (λ (t : List ℕ). codes "job" ++ t ++ text_of_status armed.outcome ++ words_of_job armed.job ++ 10 ∷ []) (numbers_behind 32 (armed.ran ∷ []))
    ∙ ap (λ (t : List ℕ). codes "job" ++ behind 32 (decimal armed.ran ∷ []) ++ t ++ words_of_job armed.job ++ 10 ∷ []) (status_is armed.outcome)
    ∙ ap (λ (t : List ℕ). codes "job" ++ behind 32 (decimal armed.ran ∷ []) ++ (32 ∷ status_word armed.outcome) ++ t ++ 10 ∷ []) (job_is armed.job)
    ∙ ap (λ (t : List ℕ). codes "job" ++ t ++ 10 ∷ [])
    (append_assoc (behind 32 (decimal armed.ran ∷ [])) (32 ∷ status_word armed.outcome) (behind 32 (job_words armed.job)) ∙ sym (flat_map-append (λ (word : List ℕ). 32 ∷ word) (decimal armed.ran ∷ []) rest))
    ∙ ap (λ (t : List ℕ). t ++ 10 ∷ []) (sym (joined 32 (codes "job") (decimal armed.ran ∷ rest)))

-- what is written for a journal is its lines
pub journal_is : (journal : JournalParts) → text_of_journal journal ≡ text_of_lines (header_lines journal.spec ++ body_lines journal.jobs journal.finals)
unfolding text_of_journal
journal_is journal =
    let h = header_lines journal.spec in
    let j = map record_words journal.jobs in
    let f = map final_words journal.finals in
    ap (λ (t : List ℕ). t ++ flat_map line_of_job journal.jobs ++ flat_map (line_of_bytes (codes "final ")) journal.finals ++ codes "end\n") (header_is journal.spec)
    ∙ ap (λ (t : List ℕ). text_of_lines h ++ t ++ flat_map (line_of_bytes (codes "final ")) journal.finals ++ codes "end\n") (each_line line_of_job record_words record_is journal.jobs)
    ∙ ap (λ (t : List ℕ). text_of_lines h ++ text_of_lines j ++ t ++ codes "end\n") (each_line (line_of_bytes (codes "final ")) final_words (λ x. refl) journal.finals)
    ∙ ap (λ (t : List ℕ). t ++ text_of_lines f ++ codes "end\n") (sym (lines-append h j))
    ∙ ap (λ (t : List ℕ). t ++ codes "end\n") (sym (lines-append (h ++ j) f))
    ∙ sym (lines-append (h ++ j ++ f) (end_words ∷ []))
    ∙ ap text_of_lines (append_assoc (h ++ j) f (end_words ∷ []) ∙ append_assoc h j (f ++ end_words ∷ []) ∙ ap (λ (r : List Line). h ++ r) (sym (append_assoc j f (end_words ∷ []))))

-- what is written for a journal spells it, where its numbers and bytes are of their types
pub written_spells : (text : List ℕ) (journal : JournalParts) → text ≡ text_of_journal journal → IsJournal journal
    → DeviceFits journal.spec → AllByRecursion RecordFits journal.jobs → AllByRecursion HasBytes journal.finals → SpellsIfShort text journal
unfolding SpellsJournal
written_spells text journal is stands device jobs finals = λ short. (
  header_lines journal.spec,
  header_spells journal.spec stands.0 device,
  stands,
  jobs,
  filled journal.finals (as_sized journal.finals journal.spec.buffers stands.2 (buffers_sized journal.spec stands.0)) finals,
  is ∙ journal_is journal,
  short,
)
