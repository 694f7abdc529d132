use Rattle.lock_bench.proofs.rounds.lock_others.Goals as goal

pub loop-buffer-preserved : goal.loop-buffer-preserved
loop-buffer-preserved g c = c.lock.ensures.ready c.loop-buffer.invariant
