use Rattle.std.proofs.Common.{rules}
use Rattle.drm_types.proofs.spec_check.are_rings.Goals as goal

pub returns-then-are_there : goal.returns-then-are_there
returns-then-are_there c = search rules
