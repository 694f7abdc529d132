use Rattle.std.proofs.Common.{◌==◌, ◌∙◌, Bool, ap, find}
use Rattle.drm_explain.specs.Rows.{Row}
use Rattle.drm_explain.proofs.Rows.{known_by, row_found}
use Rattle.drm_explain.proofs.explanation.explain.Goals as goal

pub returns-clause-row : goal.returns-clause-row
returns-clause-row c =
    let p : Row → Bool = λ row. row.number == c.args.number in
    rw (c.or-3.ensures, c.or.ensures, c.or-2.ensures) (row_found c.args.number c.numbered-jobs.result c.numbered-devices.result c.numbered-contexts.result c.numbered-texts.result
    (c.numbered-jobs.ensures ∙ ap (find p) c.of_jobs.ensures) (c.numbered-devices.ensures ∙ ap (find p) c.of_devices.ensures) (c.numbered-contexts.ensures ∙ ap (find p) c.of_contexts.ensures) (c.numbered-texts.ensures ∙ ap (find p) c.of_texts.ensures))

pub returns-clause-known : goal.returns-clause-known
returns-clause-known c =
    let p : Row → Bool = λ row. row.number == c.args.number in
    rw (c.or-3.ensures, c.or.ensures, c.or-2.ensures) (known_by c.args.number _ (row_found c.args.number c.numbered-jobs.result c.numbered-devices.result c.numbered-contexts.result c.numbered-texts.result
    (c.numbered-jobs.ensures ∙ ap (find p) c.of_jobs.ensures) (c.numbered-devices.ensures ∙ ap (find p) c.of_devices.ensures) (c.numbered-contexts.ensures ∙ ap (find p) c.of_contexts.ensures) (c.numbered-texts.ensures ∙ ap (find p) c.of_texts.ensures)))
