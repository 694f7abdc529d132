use Rattle.gpu_bench.proofs.parts.sum_of.Given as goal

abbrev pub invariant-loop-worker : goal.invariant-loop-worker
invariant-loop-worker l = Unit {0}
