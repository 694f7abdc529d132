use Rattle.drm_svg.specs.Waits.{wait_text}
use Rattle.drm_svg.proofs.Pens.{adds_lent}
use Rattle.drm_svg.proofs.waits.put_waits.Goals as goal

pub loop-wait-preserved : goal.loop-wait-preserved
loop-wait-preserved c =
    adds_lent (wait_text c.args.picture.now c.args.layout.now) c.args.picture.now.waits.items _ c.loop-wait.wait-index _
    c.deref-wait-items.ensures.value c.loop-wait-test.true c.loop-wait.invariant c.in_ok-put_wait.ensures
