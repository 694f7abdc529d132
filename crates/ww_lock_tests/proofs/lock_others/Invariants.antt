use Rattle.ww_lock.specs.Acquiring.{IsReady}
use Rattle.ww_lock.specs.Boards.{table_of}
use Rattle.ww_lock_tests.proofs.lock_others.Given as goal

abbrev pub invariant-loop-buffer : goal.invariant-loop-buffer
invariant-loop-buffer g l = IsReady g.W.Ward.facts.fits (table_of l.board) l.acquire
