use Rattle.std.specs.List.Sorted.{IsPermutation}
use Rattle.lock_bench.proofs.rounds.shuffle.Given as goal

abbrev pub invariant-loop-last : goal.invariant-loop-last
invariant-loop-last l = IsPermutation l.fn.order l.order
