use Rattle.std.proofs.lemmas.List.Sorted.{IsPermutation-trans}
use Rattle.ww_lock_tests.proofs.counting.shuffle.Goals as goal

pub loop-last-preserved : goal.loop-last-preserved
loop-last-preserved c = IsPermutation-trans c.args.order.now c.loop-last.order c.swap.new.self c.loop-last.invariant c.swap.ensures.permutation
