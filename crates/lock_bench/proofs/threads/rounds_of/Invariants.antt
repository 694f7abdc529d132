use Rattle.std.proofs.Common.{◌<◌, All}
use Rattle.ww_lock.specs.Seats.{IsIdle}
use Rattle.ww_lock.specs.Boards.{table_of}
use Rattle.lock_bench.proofs.threads.rounds_of.Given as goal

abbrev pub invariant-loop : goal.invariant-loop
invariant-loop g l = IsIdle (table_of l.board) l.seat × All (λ b. b < l.kind.locks) l.order.items
