use Rattle.std.proofs.Common.{ltb-false, arith, refl, rules, ◌+◌, get_or}
use Rattle.std.specs.Prelude.{nat_lt}
use Rattle.std.proofs.lemmas.List.{get_or-drop, length-drop}
use Rattle.std.proofs.lemmas.List.Sorted.{IsPartitionPoint-from_clause, IsPartitionedBy-ltb}
use Rattle.drm_picture.specs.declared.bars.Bar.{Bar}
use Rattle.drm_picture.proofs.waits.armed_before.Goals as goal

pub returns : goal.returns
returns c =
    let fences = c.args.fences.now in
    let before = c.partition_point.result in
    let parted = IsPartitionedBy-ltb (λ (bar : Bar). bar.from) fences c.args.place c.requires in
    let point = IsPartitionPoint-from_clause (λ bar. nat_lt bar.from c.args.place) fences before c.partition_point.ensures.partitioned parted (λ a r q k. search rules) in
    (before, refl, λ k d h. rw (get_or-drop before fences k d) (ltb-false (get_or fences (before + k) d).from c.args.place (point.1 (before + k) d (omega arith) (omega (arith, length-drop before fences)))))
