use Rattle.std.proofs.Common.{rules}
use Rattle.drm_types.proofs.spec_check.each.Goals as goal

pub returns-in-Some : goal.returns-in-Some
returns-in-Some c = search rules
