use Rattle.std.proofs.Common.{length}
use Rattle.ww_lock.specs.Acquiring.{IsReady}
use Rattle.ww_lock.specs.Boards.{table_of}
use Rattle.lock_bench.proofs.rounds.release_all.Given as goal

abbrev pub invariant-loop-acquire : goal.invariant-loop-acquire
invariant-loop-acquire l = IsReady (λ _ _ _. Unit {0}) (table_of l.board) l.acquire

abbrev pub decreases-loop-acquire : goal.decreases-loop-acquire
decreases-loop-acquire l = length l.acquire.seat.held.items
