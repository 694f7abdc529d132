use Rattle.std.proofs.Common.{◌≡◌, not, length}
use Rattle.std.specs.Prelude.{filter, vec_capacity}
use Rattle.drm_fence.specs.Cells.{pairs_in, is_released}
use Rattle.drm_fence.specs.Linked.{IsLinked}
use Rattle.drm_fence.proofs.table.Table.release.Given as goal

abbrev pub invariant-loop-place : goal.invariant-loop-place
invariant-loop-place l = record {
  linked : IsLinked l.self.cells.items l.self.unmet.items l.self.links.items;
  size : length l.self.cells.items ≡ length l.initial.self.cells.items;
  entities : length l.self.unmet.items ≡ length l.initial.self.unmet.items;
  places : length l.self.links.items ≡ length l.initial.self.links.items;
  room : vec_capacity l.self.links ≡ vec_capacity l.initial.self.links;
  kept : filter (λ p. not (is_released l.why p)) (pairs_in l.self.cells.items) ≡ filter (λ p. not (is_released l.why p)) (pairs_in l.initial.self.cells.items);
}

abbrev pub decreases-loop-place : goal.decreases-loop-place
decreases-loop-place l = length (pairs_in l.self.cells.items)
