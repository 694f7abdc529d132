use Rattle.std.proofs.Common.{rules, arith}
use Rattle.std.proofs.lemmas.Grind.{common_steps}
use Rattle.drm_words.proofs.refused.choice_of_fault.Goals as goal

pub returns-in-NoCredits-clause-number : goal.returns-in-NoCredits-clause-number
returns-in-NoCredits-clause-number c = first_of (search rules, grind (arith, common_steps))
