use Rattle.std.proofs.Common.{rules, arith}
use Rattle.std.proofs.lemmas.Grind.{common_steps}
use Rattle.drm_words.proofs.refused.choice_of.Goals as goal

pub returns-in-CtxIdle-clause-number : goal.returns-in-CtxIdle-clause-number
returns-in-CtxIdle-clause-number c = first_of (search rules, grind (arith, common_steps))

pub returns-in-Busy-clause-case : goal.returns-in-Busy-clause-case
returns-in-Busy-clause-case c = first_of (search rules, grind (arith, common_steps))
