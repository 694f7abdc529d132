use Rattle.gpu_soak.proofs.judging.judge_buffers.Given as goal

abbrev pub invariant-loop-buffer : goal.invariant-loop-buffer
invariant-loop-buffer l = Unit {0}
