use Rattle.std.proofs.Common.{◌≡◌, ◌++◌, drop}
use Rattle.drm_answer.specs.Answers.{text_of_answers}
use Rattle.drm_answer.proofs.answers.write_answers.Given as goal

abbrev pub invariant-loop-answer : goal.invariant-loop-answer
invariant-loop-answer l = l.out.items ++ text_of_answers (drop l.answer-index l.answers) ≡ text_of_answers l.answers
