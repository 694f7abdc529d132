use Rattle.std.proofs.Common.{◌≡◌, ◌∷◌, ◌++◌, ◌∙◌, [], arith}
use Rattle.drm_lists.proofs.Places.{at_index}
use Rattle.drm_why.proofs.Spans.{copy_end, copy_more}
use Rattle.drm_why.proofs.seeing.copied.Goals as goal

pub loop-number-preserved : goal.loop-number-preserved
loop-number-preserved c =
    let links = c.args.links.now in
    let number = c.loop-number.number in
    let link = c.index-links-number.result in
    let copy = c.loop-number.copy.items in
    let at = at_index links number link c.index-links-number.is (omega (arith, c.loop-number-test.true)) in
    let pushed : c.push.new.self.items ≡ copy ++ link ∷ [] = c.in_ok-push.ensures.items in
    copy_more links number link copy c.push.new.self.items at pushed c.loop-number.invariant

pub returns : goal.returns
returns c =
    c.from_vec.ensures
    ∙ copy_end c.args.links.now c.loop-number.number c.loop-number.copy.items (omega (arith, c.loop-number-test.false)) c.loop-number.invariant
