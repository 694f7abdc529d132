use Rattle.std.proofs.Common.{◌∙◌, ◌++◌, ap}
use Rattle.drm_draw.specs.Page.{page_of}
use Rattle.drm_draw.proofs.page.page.Goals as goal

pub returns : goal.returns
returns c =
    (c.in_ok-layout.layout, c.in_ok-layout.ensures, c.in_ok-put_page.ensures ∙ ap (λ l. l ++ page_of c.args.limits.now c.args.before.now c.args.part.now c.args.picture.now c.in_ok-layout.layout) c.new-out.ensures.items)
