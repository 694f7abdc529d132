use Rattle.std.proofs.Common.{◌≡◌, ◌<◌, ◌≤◌, ◌+◌, ℕ, length, true, false, vec_capacity, slice_index_or, Some}
use Rattle.std.specs.Mem.Slots.{slots_items, slots_filled, slots_len}
use mathlib.Core.Option.{some}
use lib.ListN.{get_elem?}
use Rattle.ww_lock.specs.declared.board.Slot.TheVariants.{Value}
use Rattle.ww_lock.proofs.board.Board.close.Given as goal

abbrev pub invariant-loop-b : goal.invariant-loop-b
invariant-loop-b g l =
    (l.closed.words ≡ l.initial.closed.words)
    × (slots_items l.closed.slots ≡ slots_items l.initial.closed.slots)
    × (slots_len l.closed.slots ≡ slots_len l.initial.closed.slots)
    × ((k : ℕ) → k ≤ l.b → slice_index_or (slots_filled l.closed.slots) k false ≡ false)
    × ((k : ℕ) → l.b < k → k < slots_len l.closed.slots → slice_index_or (slots_filled l.closed.slots) k false ≡ true)
    × (l.b ≤ l.buffers)
    × (length l.out.items ≡ l.b)
    × (l.buffers ≤ vec_capacity l.out)
    × ((i : ℕ) (x : g.row.W-Value.Denot) → get_elem? l.out.items i ≡ some (Some x) → (get_elem? (slots_items l.closed.slots) (i + 1) ≡ some (Value x)) × (get_elem? (slots_items l.closed.words) (i + 2) ≡ some 0))
    × ((i : ℕ) → i < length l.out.items → get_elem? (slots_items l.closed.words) (i + 2) ≡ some 0
    → (x : g.row.W-Value.Denot) × (get_elem? l.out.items i ≡ some (Some x)) × (get_elem? (slots_items l.closed.slots) (i + 1) ≡ some (Value x)))
