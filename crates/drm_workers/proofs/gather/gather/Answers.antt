use Rattle.std.proofs.Common.{rules, ◌≡◌, ◌++◌, length, map, sym, ap, ◌∙◌, subst}
use Rattle.std.proofs.lemmas.List.Elements.{All-same}
use Rattle.std.specs.Vec.Iter.{into_iter_items}
use Rattle.drm_workers.specs.declared.work.Done.{Done}
use Rattle.drm_workers.specs.Works.{Tells}
use Rattle.drm_workers.proofs.Gathering.{FitLeft, all_joined, none_joined, one_gathered}
use Rattle.drm_workers.proofs.Lists.{none_left, unit}
use Rattle.drm_workers.proofs.gather.gather.Goals as goal

pub loop-done-init : goal.loop-done-init
loop-done-init c =
    let gpu = c.args.gpu.now in let all = c.args.dones.items in let left = into_iter_items c.into_iter-done-iterator.result in
    let same : left ≡ all = c.into_iter-done-iterator.ensures.into_iter_gives.0 in (
      (
        subst (λ ds. FitLeft gpu c.args.pass.part all ds c.args.pass) (sym same) (none_joined gpu all c.args.pass c.requires.pass.0 c.requires.pass.1),
        All-same (Tells gpu) left all same c.requires.dones,
        ap (λ xs. xs ++ map (λ (d : Done). d.armed) left) c.requires.room.0 ∙ ap (map (λ (d : Done). d.armed)) same,
      ),
      search rules,
    )

pub loop-done-preserved : goal.loop-done-preserved
loop-done-preserved c = (
  one_gathered c.joined_armings.ensures c.args.gpu.now c.args.pass.part c.args.dones.items _ (into_iter_items c.next.new.self) c.in-Some.done c.loop-done.pass c.join-pass.result _ _
      c.in-Some.ensures.steps.0 c.join-pass.ensures c.push_reserved.ensures.items c.loop-done.invariant.0,
  search rules,
)

pub loop-done-preserved-then-place-submitters : goal.loop-done-preserved-then-place-submitters
loop-done-preserved-then-place-submitters c = (
  one_gathered c.joined_armings.ensures c.args.gpu.now c.args.pass.part c.args.dones.items _ (into_iter_items c.next.new.self) c.in-Some.done c.loop-done.pass c.join-pass.result _ _
      c.in-Some.ensures.steps.0 c.join-pass.ensures c.push_reserved.ensures.items c.loop-done.invariant.0,
  search rules,
)

pub returns-clause-gathered : goal.returns-clause-gathered
returns-clause-gathered c =
    let it = c.loop-done.done-iterator in let few : length (into_iter_items it) ≡ 0 = search rules in
    all_joined c.args.gpu.now c.args.pass.part c.args.dones.items c.loop-done.pass
    (subst (λ ds. FitLeft c.args.gpu.now c.args.pass.part c.args.dones.items ds c.loop-done.pass) (none_left (into_iter_items it) few) c.loop-done.invariant.0.0)

pub returns-clause-lists : goal.returns-clause-lists
returns-clause-lists c =
    let it = c.loop-done.done-iterator in let few : length (into_iter_items it) ≡ 0 = search rules in
    sym (unit c.loop-done.armed.items)
    ∙ (ap (λ ds. c.loop-done.armed.items ++ map (λ (d : Done). d.armed) ds) (sym (none_left (into_iter_items it) few)) ∙ c.loop-done.invariant.0.2)
