use Rattle.ww_lock.specs.Boards.{table_of}
use Rattle.std.proofs.Common.{◌<◌, All}
use Rattle.ww_lock.specs.Seats.{IsIdle}
use Rattle.ww_lock_tests.proofs.counting.count_rounds.Given as goal

abbrev pub invariant-loop : goal.invariant-loop
invariant-loop g l = IsIdle (table_of l.board) l.seat × All (λ b. b < l.board.buffers) l.order.items
