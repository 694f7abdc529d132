use Rattle.ww_lock_tests.proofs.lock_others.Goals as goal

pub loop-buffer-preserved : goal.loop-buffer-preserved
loop-buffer-preserved g c = c.lock.ensures.ready c.loop-buffer.invariant
