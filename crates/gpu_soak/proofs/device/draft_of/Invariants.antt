use Rattle.gpu_soak.proofs.device.draft_of.Given as goal

abbrev pub invariant-loop-buffer : goal.invariant-loop-buffer
invariant-loop-buffer l = Unit {0}
