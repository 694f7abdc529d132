use Rattle.std.proofs.Common.{◌≡◌, ◌+◌, ◌*◌, ◌<◌, not, ◌==◌, List, Option, None, Some, set, length, slice_get, eq-eqb, sym, ap, subst, ◌∙◌, arith}
use Rattle.drm_fence.specs.declared.pair.Pair.{Pair}
use Rattle.drm_fence.specs.Waiting.{without_entity}
use Rattle.drm_fence.specs.Cells.{pairs_in}
use Rattle.drm_fence.proofs.Pairs.{filter_kept, filter_cleared}
use Rattle.drm_fence.proofs.Counted.{differs, none_waits, left_of}
use Rattle.drm_fence.proofs.table.Table.forget.Goals as goal

pub clear-requires-clause-there : goal.clear-requires-clause-there
clear-requires-clause-there c =
    let counted = c.loop-of.invariant.linked.counted in
    omega (arith, c.requires.there, c.loop-of-test.true, c.loop-of.invariant.entities, counted.room)

pub returns-then-is_done-clause-pairs : goal.returns-then-is_done-clause-pairs
returns-then-is_done-clause-pairs c =
    let counted = c.loop-of.invariant.linked.counted in
    let there : c.args.entity < length c.loop-of.self.unmet.items = omega (arith, c.requires.there, c.loop-of.invariant.entities) in
    sym (filter_kept (λ p. not (p.entity == c.args.entity)) c.loop-of.self.cells.items
    (λ k p at. ap not (differs p.entity c.args.entity (λ same. none_waits _ _ c.args.entity _ k p counted there c.index.ensures c.if-is_done.true at same))))
    ∙ c.loop-of.invariant.kept

pub loop-of-preserved : goal.loop-of-preserved
loop-of-preserved c =
    let cells = c.loop-of.self.cells.items in
    let place = c.args.entity * 64 + c.loop-of.of in record {
      linked = c.clear.ensures.linked;
      entities = omega (arith, c.clear.ensures.entities, c.loop-of.invariant.entities);
      places = omega (arith, c.clear.ensures.places, c.loop-of.invariant.places);
      room = c.clear.ensures.room ∙ c.loop-of.invariant.room;
      kept = ap (λ (l : List (Option Pair)). without_entity (pairs_in l) c.args.entity) c.clear.ensures.cells
          ∙ (filter_cleared (λ p. not (p.entity == c.args.entity)) cells place
          (λ p at.
          let placed = c.loop-of.invariant.linked.counted.placed place p at in
          ap not (eq-eqb p.entity c.args.entity (omega (arith, placed.0, placed.1, c.loop-of-test.true))))
          ∙ c.loop-of.invariant.kept);
      passed = λ a p a_lt at.
          let cleared : slice_get (set cells place None) (c.args.entity * 64 + a) ≡ Some (Some p) = subst (λ (l : List (Option Pair)). slice_get l (c.args.entity * 64 + a) ≡ Some (Some p)) c.clear.ensures.cells at in
          let before = left_of cells place (c.args.entity * 64 + a) p cleared in
          c.loop-of.invariant.passed a p (omega (arith, a_lt, before.0)) before.1;
    }

pub returns-clause-pairs : goal.returns-clause-pairs
returns-clause-pairs c =
    sym (filter_kept (λ p. not (p.entity == c.args.entity)) c.loop-of.self.cells.items
    (λ k p at. let placed = c.loop-of.invariant.linked.counted.placed k p at in
    ap not (differs p.entity c.args.entity (λ same.
    let place : k ≡ c.args.entity * 64 + p.of = omega (arith, placed.0, same) in
    c.loop-of.invariant.passed p.of p (omega (arith, placed.1, c.loop-of-test.false)) (subst (λ j. slice_get c.loop-of.self.cells.items j ≡ Some (Some p)) place at)))))
    ∙ c.loop-of.invariant.kept
