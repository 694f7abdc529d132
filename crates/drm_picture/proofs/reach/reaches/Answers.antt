use Rattle.std.proofs.Common.{◌≡◌, ◌∷◌, ◌++◌, [], arith, subst, sym}
use Rattle.std.proofs.lemmas.List.{length-append}
use Rattle.drm_picture.specs.Reach.{AreReaches}
use Rattle.drm_picture.proofs.Reaching.{reach_more, reaches_more}
use Rattle.drm_picture.proofs.reach.reaches.Goals as goal

pub loop-bar-preserved : goal.loop-bar-preserved
loop-bar-preserved c =
    let fences = c.args.fences.now in
    let i = c.loop-bar.bar-index in
    let next = c.later-reach.result in
    let reaches = c.loop-bar.reaches.items in
    let so = c.loop-bar.invariant in
    let pushed : c.push.new.self.items ≡ reaches ++ next ∷ [] = c.in_ok-push.ensures.items in
    let all = reach_more fences i _ c.loop-bar.reach next (omega arith) c.later-reach.ensures so.all in
    record {
      count = rw pushed (omega (arith, so.count, length-append reaches (next ∷ [])));
      all = all;
      reaches = subst (AreReaches fences) (sym pushed) (reaches_more fences reaches i next so.count all so.reaches);
    }
