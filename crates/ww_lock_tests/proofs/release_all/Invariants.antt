use Rattle.std.proofs.Common.{length}
use Rattle.ww_lock.specs.Acquiring.{IsReady}
use Rattle.ww_lock.specs.Boards.{table_of}
use Rattle.ww_lock_tests.proofs.release_all.Given as goal

abbrev pub invariant-loop-acquire : goal.invariant-loop-acquire
invariant-loop-acquire g l = IsReady g.W.Ward.facts.fits (table_of l.board) l.acquire

abbrev pub decreases-loop-acquire : goal.decreases-loop-acquire
decreases-loop-acquire g l = length l.acquire.seat.held.items
