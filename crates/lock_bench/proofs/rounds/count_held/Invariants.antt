use Rattle.std.proofs.Common.{◌≡◌, length}
use Rattle.atomic_table.specs.Seated.{TableId}
use Rattle.ww_lock.specs.Acquiring.{IsReady}
use Rattle.lock_bench.proofs.rounds.count_held.Given as goal

abbrev pub invariant-loop-i : goal.invariant-loop-i
invariant-loop-i l = ((z : TableId) → IsReady (λ _ _ _. Unit {0}) z l.fn.acquire → IsReady (λ _ _ _. Unit {0}) z l.acquire) × (length l.acquire.seat.held.items ≡ length l.fn.acquire.seat.held.items)
