use Rattle.std.proofs.Common.{rules}
use Rattle.drm_core.proofs.locking.are_out.Goals as goal

pub returns : goal.returns
returns c = search rules
