use Rattle.std.proofs.Common.{Some, None}
use Rattle.drm_picture.specs.Bars.{ends}
use Rattle.drm_picture.proofs.Nexts.{position-from}
use Rattle.drm_picture.proofs.bars.end_place.Goals as goal

pub returns-in-Some : goal.returns-in-Some
returns-in-Some c = position-from (ends c.args.kind c.args.opening) c.args.behind.now c.args.skipped c.min-skipped.result (Some c.in-Some.more) c.min-skipped.ensures c.requires c.in-Some.ensures

pub returns-in-None : goal.returns-in-None
returns-in-None c = position-from (ends c.args.kind c.args.opening) c.args.behind.now c.args.skipped c.min-skipped.result None c.min-skipped.ensures c.requires c.in-None.ensures
