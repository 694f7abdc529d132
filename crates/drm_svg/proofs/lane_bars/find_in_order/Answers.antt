use Rattle.std.proofs.Common.{◌∙◌, Option, ap, arith, get_or, leb-false, leb-true, rules, sym}
use Rattle.std.specs.Prelude.{nat_le}
use Rattle.std.proofs.lemmas.List.Sorted.{IsPartitionPoint-from_clause, IsPartitionedBy-leb}
use Rattle.drm_svg.specs.LaneBars.{if_waiting, order_of}
use Rattle.drm_svg.specs.declared.placing.Placed.{Placed}
use Rattle.drm_svg.proofs.InOrder.{found_in_order}
use Rattle.drm_svg.proofs.InTurn.{lent_at}
use Rattle.drm_svg.proofs.lane_bars.find_in_order.Goals as goal

pub returns : goal.returns
returns c =
    let bars = c.args.bars.now in
    let fence = c.args.fence in
    let place = c.partition_point-before.result in
    let parted = IsPartitionedBy-leb order_of bars fence c.requires in
    let point = IsPartitionPoint-from_clause (λ (p : Placed). nat_le (order_of p) fence) bars place c.partition_point-before.ensures.partitioned parted (λ a r q k. search rules) in
    c.if_waiting.ensures
    ∙ ap (λ (o : Option Placed). if_waiting fence o) (lent_at bars place c.get.result c.get.ensures.lookup)
    ∙ sym (found_in_order bars fence place c.requires
    (λ k d lt within. leb-true (order_of (get_or bars k d)) fence (point.0 k d (omega arith) lt))
    (λ k d le within. let over = leb-false (order_of (get_or bars k d)) fence (point.1 k d le within) in omega (arith, over)))
