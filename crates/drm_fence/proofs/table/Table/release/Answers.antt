use Rattle.std.proofs.Common.{not, length, List, Option, sym, ap, ◌∙◌, arith}
use Rattle.std.specs.Prelude.{filter}
use Rattle.drm_fence.specs.declared.pair.Pair.{Pair}
use Rattle.drm_fence.specs.Cells.{pairs_in, is_released}
use Rattle.drm_fence.proofs.Pairs.{filter_kept, filter_taken, one_less}
use Rattle.drm_fence.proofs.table.Table.release.Goals as goal

pub loop-place-smaller : goal.loop-place-smaller
loop-place-smaller c =
    let less = one_less c.loop-place.self.cells.items c.in-Some.place c.in-Some.pair c.in-Some.ensures.some.0 in
    omega (arith, less, ap (λ (l : List (Option Pair)). length (pairs_in l)) c.take_out.ensures.cells)

pub loop-place-preserved : goal.loop-place-preserved
loop-place-preserved c = record {
  linked = c.take_out.ensures.linked;
  size = omega (arith, c.take_out.ensures.linked.counted.room, c.take_out.ensures.entities, c.loop-place.invariant.linked.counted.room, c.loop-place.invariant.size);
  entities = omega (arith, c.take_out.ensures.entities, c.loop-place.invariant.entities);
  places = omega (arith, c.take_out.ensures.places, c.loop-place.invariant.places);
  room = c.take_out.ensures.room ∙ c.loop-place.invariant.room;
  kept = ap (λ (l : List (Option Pair)). filter (λ p. not (is_released c.args.why p)) (pairs_in l)) c.take_out.ensures.cells
      ∙ (filter_taken (λ p. not (is_released c.args.why p)) c.loop-place.self.cells.items c.in-Some.place c.in-Some.pair c.in-Some.ensures.some.0 (ap not c.in-Some.ensures.some.1)
      ∙ c.loop-place.invariant.kept);
}

pub returns-clause-pairs : goal.returns-clause-pairs
returns-clause-pairs c =
    sym (filter_kept (λ p. not (is_released c.args.why p)) c.loop-place.self.cells.items (λ k p at. ap not (c.in_default.ensures.none k p at))) ∙ c.loop-place.invariant.kept
