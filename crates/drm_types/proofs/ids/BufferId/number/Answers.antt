use Rattle.std.proofs.Common.{rules}
use Rattle.drm_types.proofs.ids.BufferId.number.Goals as goal

pub returns : goal.returns
returns c = search rules
