use Rattle.std.proofs.Common.{arith}
use Rattle.std.proofs.lemmas.Grind.{common_steps}
use Rattle.drm_text.proofs.parts.is_one_byte.Goals as goal

pub returns-else-at-bytes-2-clause-one : goal.returns-else-at-bytes-2-clause-one
returns-else-at-bytes-2-clause-one c = grind (arith, common_steps)
