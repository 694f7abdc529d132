use Rattle.ww_lock.specs.Acquiring.{HoldsOutside}
use Rattle.ww_lock.proofs.Waiting.{Since}
use Rattle.ww_lock.proofs.board.Board.lock.Given as goal

abbrev pub invariant-loop : goal.invariant-loop
invariant-loop g l = HoldsOutside l.fn.self.table.shared.table_id l.acquire × Since l.buffer l.fn.acquire l.acquire
