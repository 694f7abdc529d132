use Rattle.std.proofs.Common.{rules}
use Rattle.drm_svg.proofs.placing.place_bar.Goals as goal

pub returns : goal.returns
returns c = search rules
