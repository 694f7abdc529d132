use Rattle.std.proofs.Common.{rules}
use Rattle.drm_ring.proofs.pending.PendingList.new.Goals as goal

pub returns : goal.returns
returns c = search rules
