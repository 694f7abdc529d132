use Rattle.std.proofs.Common.{rules}
use Rattle.drm_types.proofs.access.Usage.is_as_strong_as.Goals as goal

pub returns : goal.returns
returns c = search rules
