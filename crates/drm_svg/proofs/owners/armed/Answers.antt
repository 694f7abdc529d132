use Rattle.std.proofs.Common.{List, subst}
use Rattle.std.specs.Slice.{IsItemAt}
use Rattle.drm_picture.specs.declared.command.Request.{Request}
use Rattle.drm_picture.proofs.Places.{lent_is}
use Rattle.drm_svg.proofs.owners.armed.Goals as goal

pub returns : goal.returns
returns c =
    lent_is c.args.picture.now.armed.items c.args.fence c.get.result
    (subst (λ (l : List Request). IsItemAt l c.args.fence c.get.result) c.as_slice.ensures.value c.get.ensures.lookup)
