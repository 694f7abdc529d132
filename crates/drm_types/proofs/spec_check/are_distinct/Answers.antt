use Rattle.std.proofs.Common.{arith}
use Rattle.std.proofs.lemmas.Grind.{common_steps}
use Rattle.drm_types.proofs.spec_check.are_distinct.Goals as goal

pub returns-then-contains : goal.returns-then-contains
returns-then-contains c = grind (arith, common_steps)
