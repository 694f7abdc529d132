use Rattle.std.proofs.Common.{◌≡◌, ◌≢◌, ℕ, ◌+◌, ◌*◌, ◌<◌, length, slice_get, Some}
use Rattle.drm_fence.specs.declared.pair.Pair.{Pair}
use Rattle.drm_fence.specs.Waiting.{without_entity}
use Rattle.std.specs.Prelude.{vec_capacity}
use Rattle.drm_fence.specs.Cells.{pairs_in}
use Rattle.drm_fence.specs.Linked.{IsLinked}
use Rattle.drm_fence.proofs.table.Table.forget.Given as goal

abbrev pub invariant-loop-of : goal.invariant-loop-of
invariant-loop-of l = record {
  linked : IsLinked l.self.cells.items l.self.unmet.items l.self.links.items;
  entities : length l.self.unmet.items ≡ length l.initial.self.unmet.items;
  places : length l.self.links.items ≡ length l.initial.self.links.items;
  room : vec_capacity l.self.links ≡ vec_capacity l.initial.self.links;
  kept : without_entity (pairs_in l.self.cells.items) l.entity ≡ without_entity (pairs_in l.initial.self.cells.items) l.entity;
  passed : (a : ℕ) (p : Pair) → a < l.of → slice_get l.self.cells.items (l.entity * 64 + a) ≢ Some (Some p);
}
