use Rattle.std.proofs.Common.{rules}
use Rattle.drm_svg.proofs.placing.bars_for.Goals as goal

pub returns-in-Buffer : goal.returns-in-Buffer
returns-in-Buffer c = search rules
