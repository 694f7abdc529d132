use Rattle.std.proofs.Common.{◌≡◌, ◌≤◌, ◌+◌, ◌∷◌, length, map, vec_capacity}
use Rattle.ww_lock.specs.Lifetime.{valued}
use Rattle.ww_lock.specs.declared.board.Slot.TheVariants.{Pivot}
use Rattle.ww_lock.proofs.lifetime.slots_of.Given as goal

abbrev pub invariant-loop-value : goal.invariant-loop-value
invariant-loop-value g l = (l.slots.items ≡ Pivot l.fn.pivot ∷ map valued l.yielded) × (length l.fn.values.items + 1 ≤ vec_capacity l.slots)
