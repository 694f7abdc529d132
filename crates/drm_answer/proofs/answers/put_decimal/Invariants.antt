use Rattle.std.proofs.Common.{◌≡◌, ◌++◌, drop}
use Rattle.drm_answer.proofs.answers.put_decimal.Given as goal

abbrev pub invariant-loop-digit : goal.invariant-loop-digit
invariant-loop-digit l = l.out.items ++ drop l.digit-index l.digits ≡ l.fn.out.items ++ l.digits
