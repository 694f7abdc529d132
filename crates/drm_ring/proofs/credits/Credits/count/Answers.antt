use Rattle.std.proofs.Common.{rules}
use Rattle.drm_ring.proofs.credits.Credits.count.Goals as goal

pub returns-clause-count : goal.returns-clause-count
returns-clause-count c = search rules
