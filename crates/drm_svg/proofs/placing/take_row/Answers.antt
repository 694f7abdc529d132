use Rattle.std.proofs.Common.{rules}
use Rattle.drm_svg.proofs.placing.take_row.Goals as goal

pub returns-then-row-len : goal.returns-then-row-len
returns-then-row-len c = search rules
