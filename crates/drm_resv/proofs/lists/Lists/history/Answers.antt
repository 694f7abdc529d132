use Rattle.std.proofs.Common.{rules}
use Rattle.drm_resv.proofs.lists.Lists.history.Goals as goal

pub returns : goal.returns
returns c = search rules
