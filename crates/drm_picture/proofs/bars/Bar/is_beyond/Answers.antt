use Rattle.std.proofs.Common.{rules}
use Rattle.drm_picture.proofs.bars.Bar.is_beyond.Goals as goal

pub returns : goal.returns
returns c = search rules
