use Rattle.std.specs.List.Sorted.{IsPermutation}
use Rattle.ww_lock_tests.proofs.counting.shuffle.Given as goal

abbrev pub invariant-loop-last : goal.invariant-loop-last
invariant-loop-last l = IsPermutation l.fn.order l.order
