use Rattle.lock_bench.proofs.rounds.lock_all.Goals as goal

pub loop-preserved : goal.loop-preserved
loop-preserved g c = c.lock_slow.ensures.ready c.release_all.ensures.ready
