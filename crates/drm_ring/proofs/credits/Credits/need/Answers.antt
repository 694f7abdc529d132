use Rattle.std.proofs.Common.{rules}
use Rattle.drm_ring.proofs.credits.Credits.need.Goals as goal

pub returns : goal.returns
returns c = search rules
