use Rattle.ww_lock.specs.Acquiring.{IsReady}
use Rattle.ww_lock.specs.Boards.{table_of}
use Rattle.lock_bench.proofs.rounds.lock_all.Given as goal

abbrev pub invariant-loop : goal.invariant-loop
invariant-loop g l = IsReady (λ _ _ _. Unit {0}) (table_of l.board) l.acquire
