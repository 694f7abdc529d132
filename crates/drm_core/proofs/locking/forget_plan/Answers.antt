use Rattle.std.proofs.Common.{rules}
use Rattle.drm_core.proofs.locking.forget_plan.Goals as goal

pub returns-in-Some : goal.returns-in-Some
returns-in-Some c = search rules
