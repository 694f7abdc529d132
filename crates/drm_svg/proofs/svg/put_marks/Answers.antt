use Rattle.drm_svg.specs.Svg.{mark_text}
use Rattle.drm_svg.proofs.Pens.{adds_lent}
use Rattle.drm_svg.proofs.svg.put_marks.Goals as goal

pub loop-mark-preserved : goal.loop-mark-preserved
loop-mark-preserved c =
    adds_lent (mark_text c.args.picture.now c.args.layout.now) c.args.picture.now.marks.items _ c.loop-mark.mark-index _
    c.deref-mark-items.ensures.value c.loop-mark-test.true c.loop-mark.invariant c.in_ok-put_mark.ensures
