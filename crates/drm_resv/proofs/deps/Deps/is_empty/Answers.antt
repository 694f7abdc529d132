use Rattle.std.proofs.Common.{rules}
use Rattle.drm_resv.proofs.deps.Deps.is_empty.Goals as goal

pub returns : goal.returns
returns c = search rules
