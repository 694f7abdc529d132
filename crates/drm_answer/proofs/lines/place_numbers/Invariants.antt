use Rattle.std.proofs.Common.{◌≡◌, ◌+◌, ◌*◌, ◌≤◌, ◌++◌, length, take, drop}
use Rattle.drm_answer.specs.Answers.{numbers}
use Rattle.drm_answer.proofs.lines.place_numbers.Given as goal

abbrev pub invariant-loop-value : goal.invariant-loop-value
invariant-loop-value l = record {
  text : take l.end l.room ++ numbers (drop l.value-index l.values) ≡ take l.at l.fn.room ++ l.word ++ numbers l.values;
  most : l.end ≤ l.at + length l.word + 21 * l.value-index;
}
