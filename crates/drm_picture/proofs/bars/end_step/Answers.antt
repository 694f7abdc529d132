use Rattle.std.proofs.Common.{◌∙◌, ap, slice_get}
use Rattle.drm_picture.specs.Bars.{ends}
use Rattle.drm_picture.proofs.Places.{found_at, lent_is}
use Rattle.drm_picture.proofs.bars.end_step.Goals as goal

pub returns : goal.returns
returns c =
    lent_is c.args.behind.now c.args.more c.get.result c.get.ensures.lookup
    ∙ ap (slice_get c.args.behind.now) c.requires
    ∙ found_at (ends c.args.kind c.args.opening) c.args.behind.now
