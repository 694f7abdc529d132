use Rattle.std.proofs.Common.{◌∙◌, ap}
use Rattle.std.proofs.lemmas.Result.{IfOk-weaker}
use Rattle.drm_script_writer.specs.Journals.{text_of_journal}
use Rattle.drm_script_writer.proofs.recording.journal_text.Goals as goal

pub returns : goal.returns
returns c =
    IfOk-weaker c.write_journal.result _ _
    (λ text same. (c.in_ok-core.core, c.in_ok-core.ensures, same ∙ ap text_of_journal c.in_ok-journal.ensures.value))
    c.write_journal.ensures.value
