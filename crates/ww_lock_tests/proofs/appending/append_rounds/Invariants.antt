use Rattle.ww_lock.specs.Boards.{table_of}
use Rattle.std.proofs.Common.{◌≡◌, ◌∷◌, []}
use Rattle.ww_lock.specs.Seats.{IsIdle}
use Rattle.ww_lock_tests.proofs.appending.append_rounds.Given as goal

abbrev pub invariant-loop : goal.invariant-loop
invariant-loop g l = IsIdle (table_of l.board) l.seat × (l.order ≡ l.fn.first ∷ l.fn.second ∷ [])
