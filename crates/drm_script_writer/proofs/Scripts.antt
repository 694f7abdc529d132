-- The text of a script is the lines of the grammar.
use Rattle.std.proofs.Common.{◌≡◌, ℕ, List, [], ◌∷◌, ◌++◌, append_assoc, map, sym, ap, ◌∙◌, None}
use Rattle.std.specs.Prelude.{codes, flat_map}
use Rattle.std.specs.List.{AllByRecursion}
use Rattle.std.specs.Fmt.{decimal}
use Rattle.std.proofs.lemmas.Grind.{flat_map-append}
use Rattle.std.proofs.lemmas.List.{append-nil}
use Rattle.drm_job.specs.declared.Draft.{Draft}
use Rattle.drm_types.specs.Limits.{spec_fault}
use Rattle.drm_types.specs.declared.spec.DeviceSpec.{DeviceSpec}
use Rattle.drm_core.specs.declared.event.Event.{Event}
use Rattle.drm_core.specs.declared.event.Event.TheVariants as event
use Rattle.drm_core.specs.Run.{AllNamesExist}
use Rattle.drm_text.specs.Grammar.{line_of_words, text_of_lines}
use Rattle.drm_answer.specs.Answers.{numbers}
use Rattle.drm_parse.specs.Grammar.{job_words}
use Rattle.drm_script.specs.Grammar.{SpellsScript, command_words}
use Rattle.drm_script_writer.specs.Headers.{DeviceFits}
use Rattle.drm_script_writer.specs.Jobs.{words_of_job}
use Rattle.drm_script_writer.specs.Texts.{NumbersFit, SpellsIfShort, line_of_command, text_of_script}
use Rattle.drm_script_writer.proofs.Fitting.{all_fit}
use Rattle.drm_script_writer.proofs.Lines.{behind, each_line, header_is, header_lines, header_spells, job_is, joined, lines-append, numbers_behind}

-- a word, numbers, and no job
numbers_line : (word : List ℕ) (values : List ℕ) → word ++ numbers values ++ [] ++ 10 ∷ [] ≡ line_of_words (word ∷ map decimal values)
numbers_line word values =
    ap (λ (t : List ℕ). t ++ 10 ∷ []) (append-nil (word ++ numbers values)) ∙ ap (λ (t : List ℕ). word ++ t ++ 10 ∷ []) (numbers_behind 32 values) ∙ ap (λ (t : List ℕ). t ++ 10 ∷ []) (sym (joined 32 word (map decimal values)))

-- a word, numbers, and a job
job_line : (word : List ℕ) (values : List ℕ) (job : Draft) → word ++ numbers values ++ words_of_job job ++ 10 ∷ [] ≡ line_of_words (word ∷ map decimal values ++ job_words job)
job_line word values job =
    let ds = map decimal values in
    let js = job_words job in
    ap (λ (t : List ℕ). word ++ t ++ words_of_job job ++ 10 ∷ []) (numbers_behind 32 values)
    ∙ ap (λ (t : List ℕ). word ++ behind 32 ds ++ t ++ 10 ∷ []) (job_is job)
    ∙ ap (λ (t : List ℕ). t ++ 10 ∷ [])
    (append_assoc word (behind 32 ds) (behind 32 js) ∙ ap (λ (t : List ℕ). word ++ t) (sym (flat_map-append (λ (w : List ℕ). 32 ∷ w) ds js))
    ∙ sym (joined 32 word (ds ++ js)))

command_is : (e : Event Draft) → line_of_command e ≡ line_of_words (command_words e)
command_is (event.Submit job) = job_line (codes "submit") [] job
command_is (event.Begin ctx) = numbers_line (codes "begin") (ctx ∷ [])
command_is (event.Try ctx buffer) = numbers_line (codes "try") (ctx ∷ buffer ∷ [])
command_is (event.Done ctx) = numbers_line (codes "done") (ctx ∷ [])
command_is (event.Drop ctx buffer) = numbers_line (codes "drop") (ctx ∷ buffer ∷ [])
command_is (event.End ctx) = numbers_line (codes "end") (ctx ∷ [])
command_is (event.Plan ctx job) = job_line (codes "plan") (ctx ∷ []) job
command_is (event.Arm ctx) = numbers_line (codes "arm") (ctx ∷ [])
command_is (event.Pick ring now) = numbers_line (codes "pick") (ring ∷ now ∷ [])
command_is (event.Step ring) = numbers_line (codes "step") (ring ∷ [])
command_is (event.Finish ring now) = numbers_line (codes "finish") (ring ∷ now ∷ [])
command_is (event.Timeout ring now) = numbers_line (codes "timeout") (ring ∷ now ∷ [])
command_is (event.Cancel entity) = numbers_line (codes "cancel") (entity ∷ [])
command_is (event.Reap entity) = numbers_line (codes "reap") (entity ∷ [])
command_is (event.Read ctx buffer) = numbers_line (codes "read") (ctx ∷ buffer ∷ [])
command_is (event.Status fence) = numbers_line (codes "fence") (fence ∷ [])
command_is (event.Dump buffer) = numbers_line (codes "dump") (buffer ∷ [])

script_is : (spec : DeviceSpec) (events : List (Event Draft)) → text_of_script spec events ≡ text_of_lines (header_lines spec ++ map command_words events)
unfolding text_of_script
script_is spec events =
    ap (λ (t : List ℕ). t ++ flat_map line_of_command events) (header_is spec)
    ∙ ap (λ (t : List ℕ). text_of_lines (header_lines spec) ++ t) (each_line line_of_command command_words command_is events)
    ∙ sym (lines-append (header_lines spec) (map command_words events))

-- what is written spells the script, where its numbers and bytes are of their types
pub written_spells : (text : List ℕ) (spec : DeviceSpec) (events : List (Event Draft)) → text ≡ text_of_script spec events → spec_fault spec ≡ None → AllNamesExist spec events
    → DeviceFits spec → AllByRecursion NumbersFit events → SpellsIfShort text spec events
unfolding SpellsScript
written_spells text spec events is limits names device numbers = λ short. (
  header_lines spec,
  header_spells spec limits device,
  all_fit spec events limits names numbers,
  is ∙ script_is spec events,
  short,
)
