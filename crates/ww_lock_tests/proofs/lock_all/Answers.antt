use Rattle.ww_lock_tests.proofs.lock_all.Goals as goal

pub loop-preserved : goal.loop-preserved
loop-preserved g c = c.lock_slow.ensures.ready c.release_all.ensures.ready
