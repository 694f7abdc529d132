use Rattle.std.proofs.Common.{◌≡◌, ◌≤◌, ◌+◌, ℕ, Bool, length, vec_capacity}
use Rattle.atomic_table.specs.Seated.{TableId}
use Rattle.ww_lock.specs.Acquiring.{Holds, IsSameAcquire, view}
use Rattle.ww_lock.specs.Held.{IsSameKeys, Lacks}
use Rattle.ww_lock_tests.specs.Numbers.{Counts, count_of}
use mathlib.Core.List.{IsPrefix}
use Rattle.ww_lock_tests.proofs.appending.append_held.Given as goal

abbrev pub invariant-loop-i : goal.invariant-loop-i
invariant-loop-i l = Counts (λ x. x.times) l.pivot.items l.acquire.seat.held.items × IsPrefix l.fn.pivot.items l.pivot.items
    × ((b : ℕ) → Lacks b l.fn.acquire.seat.held.items → count_of b l.pivot.items ≡ count_of b l.fn.pivot.items)
    × IsSameAcquire l.fn.acquire l.acquire × (view l.acquire ≡ view l.fn.acquire) × IsSameKeys l.acquire.seat.held.items l.fn.acquire.seat.held.items
    × (length l.pivot.items + length l.fn.acquire.seat.held.items ≤ vec_capacity l.pivot + l.i)
    × ((inside : Bool) (z : TableId) → Holds inside z l.fn.acquire → Holds inside z l.acquire)
