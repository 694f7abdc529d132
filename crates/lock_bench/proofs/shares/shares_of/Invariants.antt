use Rattle.std.proofs.Common.{All}
use Rattle.ww_lock.specs.Seats.{IsIdle}
use Rattle.ww_lock.specs.Boards.{table_of}
use Rattle.lock_bench.proofs.shares.shares_of.Given as goal

abbrev pub invariant-loop-thread : goal.invariant-loop-thread
invariant-loop-thread g l = IsIdle (table_of l.board) l.seat × All (λ s. IsIdle (table_of l.board) s.seat) l.shares.items
