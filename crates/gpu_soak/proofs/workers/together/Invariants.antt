use Rattle.gpu_soak.proofs.workers.together.Given as goal

abbrev pub invariant-loop-found : goal.invariant-loop-found
invariant-loop-found l = Unit {0}
