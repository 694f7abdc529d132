use Rattle.std.proofs.Common.{rules}
use Rattle.drm_svg.proofs.placing.with_row.Goals as goal

pub returns : goal.returns
returns c = search rules
