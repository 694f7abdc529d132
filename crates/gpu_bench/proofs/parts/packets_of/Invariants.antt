use Rattle.gpu_bench.proofs.parts.packets_of.Given as goal

abbrev pub invariant-loop-record : goal.invariant-loop-record
invariant-loop-record l = Unit {0}
