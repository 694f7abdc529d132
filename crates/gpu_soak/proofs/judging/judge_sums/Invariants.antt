use Rattle.gpu_soak.proofs.judging.judge_sums.Given as goal

abbrev pub invariant-loop-record : goal.invariant-loop-record
invariant-loop-record l = Unit {0}
