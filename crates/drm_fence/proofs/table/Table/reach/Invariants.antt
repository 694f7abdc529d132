use Rattle.std.proofs.Common.{◌≡◌, ◌+◌, ◌-◌, ◌≤◌, length}
use Rattle.std.specs.Prelude.{vec_capacity}
use Rattle.drm_fence.specs.Linked.{IsLinked}
use Rattle.drm_fence.proofs.table.Table.reach.Given as goal

abbrev pub invariant-missing : goal.invariant-missing
invariant-missing l = record {
  linked : IsLinked l.self.cells.items l.self.unmet.items l.self.links.items;
  cells : l.self.cells.items ≡ l.initial.self.cells.items;
  entities : length l.self.unmet.items ≡ length l.initial.self.unmet.items;
  places : length l.self.cells.items ≤ length l.self.links.items;
  room : vec_capacity l.self.links ≡ vec_capacity l.initial.self.links;
}

abbrev pub decreases-missing : goal.decreases-missing
decreases-missing l = length l.self.cells.items + l.fence + 1 - length l.self.links.items
