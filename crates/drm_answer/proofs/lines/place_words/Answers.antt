use Rattle.std.proofs.Common.{arith}
use Rattle.std.proofs.lemmas.Grind.{common_steps}
use Rattle.drm_answer.proofs.lines.place_words.Goals as goal

pub returns-in-Ran-clause-text : goal.returns-in-Ran-clause-text
returns-in-Ran-clause-text c = grind (arith, common_steps)
