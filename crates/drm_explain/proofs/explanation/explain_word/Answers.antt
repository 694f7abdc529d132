use Rattle.std.proofs.Common.{◌∙◌, Bool, ap, find}
use Rattle.std.specs.Fmt.{decimal}
use Rattle.std.specs.Str.{bytes_eq}
use Rattle.drm_explain.specs.Rows.{Row}
use Rattle.drm_explain.proofs.Rows.{word_found}
use Rattle.drm_explain.proofs.explanation.explain_word.Goals as goal

pub returns : goal.returns
returns c =
    let p : Row → Bool = λ row. bytes_eq (decimal row.number) c.args.word.now in
    rw (c.or-3.ensures, c.or.ensures, c.or-2.ensures) (word_found c.args.word.now c.spelled-jobs.result c.spelled-devices.result c.spelled-contexts.result c.spelled-texts.result
    (c.spelled-jobs.ensures ∙ ap (find p) c.of_jobs.ensures) (c.spelled-devices.ensures ∙ ap (find p) c.of_devices.ensures) (c.spelled-contexts.ensures ∙ ap (find p) c.of_contexts.ensures) (c.spelled-texts.ensures ∙ ap (find p) c.of_texts.ensures))
