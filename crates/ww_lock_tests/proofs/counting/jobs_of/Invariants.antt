use Rattle.ww_lock.specs.Boards.{table_of}
use Rattle.std.proofs.Common.{All}
use Rattle.ww_lock.specs.Seats.{IsIdle}
use Rattle.ww_lock_tests.proofs.counting.jobs_of.Given as goal

abbrev pub invariant-loop-thread : goal.invariant-loop-thread
invariant-loop-thread l = IsIdle (table_of l.board) l.seat × All (λ j. IsIdle (table_of l.board) j.seat) l.jobs.items
