use Rattle.std.proofs.Common.{rules}
use Rattle.drm_types.proofs.spec.Priority.rank.Goals as goal

pub returns-in-Kernel : goal.returns-in-Kernel
returns-in-Kernel c = search rules
