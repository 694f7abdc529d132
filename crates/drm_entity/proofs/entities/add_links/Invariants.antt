use Rattle.std.proofs.Common.{◌≡◌, ℕ, ◌≤◌, ◌-◌, ◌+◌, length, get_or}
use Rattle.std.specs.Prelude.{vec_capacity}
use Rattle.drm_entity.proofs.entities.add_links.Given as goal

abbrev pub invariant-loop-next : goal.invariant-loop-next
invariant-loop-next l = record {
  longer : length l.initial.next.items ≤ length l.next.items;
  links : (k : ℕ) → get_or l.next.items k 0 ≡ get_or l.initial.next.items k 0;
  room : vec_capacity l.next ≡ vec_capacity l.initial.next;
}

abbrev pub decreases-loop-next : goal.decreases-loop-next
decreases-loop-next l = l.number + 1 - length l.next.items
