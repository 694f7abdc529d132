use Rattle.std.proofs.Common.{◌∙◌, List, ap, subst}
use Rattle.std.proofs.lemmas.Result.{IfOk-weaker}
use Rattle.drm_picture.specs.Pictures.{part_of}
use Rattle.drm_picture.specs.declared.command.Step.{Step}
use Rattle.drm_draw.specs.Page.{IsPage}
use Rattle.drm_draw.proofs.drawing.text_of.Goals as goal

pub returns : goal.returns
returns c =
    let before = part_of 0 c.args.from (part_of 0 c.args.to c.args.steps.now) in
    let picture = c.in_ok-picture.picture in
    IfOk-weaker c.page.result _ _
    (λ text same. (
      picture,
      c.in_ok-picture.ensures.drawn,
      subst (λ (steps : List Step). IsPage c.args.limits.now before steps picture text.items) c.part-2.ensures
          (subst (λ (steps : List Step). IsPage c.args.limits.now steps c.part-2.result.now picture text.items) (c.part-before.ensures ∙ ap (part_of 0 c.args.from) c.part.ensures) same),
    ))
    c.page.ensures
