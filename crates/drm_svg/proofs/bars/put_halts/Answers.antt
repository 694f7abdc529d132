use Rattle.drm_picture.specs.declared.bars.Bar.{Bar}
use Rattle.drm_svg.specs.Bars.{halt_text}
use Rattle.drm_svg.specs.Layout.{placed_at, row_of_lane}
use Rattle.drm_svg.proofs.Pens.{adds_lent}
use Rattle.drm_svg.proofs.bars.put_halts.Goals as goal

pub loop-bar-preserved : goal.loop-bar-preserved
loop-bar-preserved c =
    adds_lent (λ (bar : Bar). halt_text (placed_at c.args.picture.now (row_of_lane c.args.layout.now bar.opening.lane) bar)) c.args.picture.now.stopped.items _
    c.loop-bar.bar-index _ c.deref-bar-items.ensures.value c.loop-bar-test.true c.loop-bar.invariant c.in_ok-put_halt_of.ensures
