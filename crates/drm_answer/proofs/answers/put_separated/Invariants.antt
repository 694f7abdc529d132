use Rattle.std.proofs.Common.{◌≡◌, ◌++◌, drop}
use Rattle.drm_answer.specs.Answers.{separated}
use Rattle.drm_answer.proofs.answers.put_separated.Given as goal

abbrev pub invariant-loop-value : goal.invariant-loop-value
invariant-loop-value l =
    l.out.items ++ separated l.separator (drop l.value-index l.values) ≡ l.fn.out.items ++ l.word ++ separated l.separator l.values
