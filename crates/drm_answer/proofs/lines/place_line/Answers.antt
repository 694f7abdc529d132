use Rattle.std.proofs.Common.{arith}
use Rattle.std.proofs.lemmas.Grind.{common_steps}
use Rattle.drm_answer.specs.Answers.{line_of}
use Rattle.drm_answer.proofs.lines.place_line.Goals as goal

pub returns-clause-text : goal.returns-clause-text
unfolding line_of
returns-clause-text c = grind (arith, common_steps)
