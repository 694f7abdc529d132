use Rattle.std.proofs.Common.{rules, arith}
use Rattle.std.proofs.lemmas.Grind.{common_steps}
use Rattle.drm_words.proofs.refused.idle_case.Goals as goal

pub returns-in-Step : goal.returns-in-Step
returns-in-Step c = first_of (search rules, grind (arith, common_steps))
