use Rattle.std.proofs.Common.{rules}
use Rattle.drm_resv.proofs.lists.Lists.new.Goals as goal

pub returns : goal.returns
returns c = search rules
