use Rattle.std.proofs.Common.{rules}
use Rattle.drm_resv.proofs.deps.Deps.as_slice.Goals as goal

pub returns : goal.returns
returns c = search rules
