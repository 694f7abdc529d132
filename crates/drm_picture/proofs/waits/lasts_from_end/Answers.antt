use Rattle.std.proofs.Common.{◌≡◌, ◌∙◌, ◌+◌, ◌-◌, [], List, ap, arith, drop, length, reverse, subst, sym}
use Rattle.std.proofs.Math.ListN.{drop_of_length-le}
use Rattle.std.specs.List.{filter_map}
use Rattle.drm_picture.specs.Users.{AreSettled}
use Rattle.drm_picture.specs.Waits.{earlier_of, last_of_each}
use Rattle.drm_picture.specs.declared.bars.Bar.{Bar}
use Rattle.drm_picture.specs.declared.waits.Earlier.{Earlier}
use Rattle.drm_picture.proofs.Lasts.{lasts-all, lasts-next}
use Rattle.drm_picture.proofs.Reaching.{all_within, lasts-over}
use Rattle.drm_picture.proofs.waits.lasts_from_end.Goals as goal

pub loop-index-preserved : goal.loop-index-preserved
loop-index-preserved c =
    ap reverse c.in_ok-push_earlier.ensures
    ∙ lasts-next c.args.run.now c.args.place c.args.later.now c.args.fences.now c.loop-index.index (c.loop-index.index - 1) _ c.loop-index.jobs.items (omega arith) (omega arith) c.loop-index.invariant

pub returns-then-is_within : goal.returns-then-is_within
returns-then-is_within c =
    let index = c.loop-index.index in
    let next : index - 1 + 1 ≡ index = omega arith in
    lasts-over c.args.run.now c.args.place c.args.later.now c.args.fences.now index c.loop-index.jobs.items c.loop-index.invariant
    (all_within c.args.fences.now c.args.reaches.now index (index - 1) c.args.place next c.requires.reach (sym c.is_within.ensures ∙ c.if-is_within.true))

pub returns-then-is_settled : goal.returns-then-is_settled
returns-then-is_settled c =
    let run = c.args.run.now in
    let place = c.args.place in
    let later = c.args.later.now in
    let fences = c.args.fences.now in
    let jobs = c.new-jobs.result.items in
    let settled = c.is_settled.ensures c.if-is_settled.true in
    let none : drop (length fences) fences ≡ [] = drop_of_length-le fences {i = length fences} (omega arith) in
    let so : reverse jobs ≡ last_of_each (filter_map (earlier_of run place later) (drop (length fences) fences)) =
    ap reverse c.new-jobs.ensures.items ∙ ap (λ (l : List Bar). last_of_each (filter_map (earlier_of run place later) l)) (sym none) in
    lasts-all run place later fences (length fences) jobs
    (subst (λ (l : List Earlier). AreSettled run later l fences) c.deref.ensures.value settled) so

pub returns-then-is_settled-2 : goal.returns-then-is_settled-2
returns-then-is_settled-2 c =
    let run = c.args.run.now in
    let place = c.args.place in
    let later = c.args.later.now in
    let fences = c.args.fences.now in
    let next = c.loop-index.index - 1 in
    let settled = c.is_settled-then-found-len.ensures c.if-is_settled-2.true in
    let so =
    ap reverse c.in_ok-push_earlier.ensures
    ∙ lasts-next run place later fences c.loop-index.index next _ c.loop-index.jobs.items (omega arith) (omega arith) c.loop-index.invariant in
    lasts-all run place later fences next c.push_earlier.new.jobs.items
    (subst (λ (l : List Earlier). AreSettled run later l fences) c.deref-then-found-len.ensures.value settled) so
