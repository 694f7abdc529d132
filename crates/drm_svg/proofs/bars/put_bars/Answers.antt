use Rattle.drm_svg.specs.Bars.{bar_text}
use Rattle.drm_svg.specs.Owners.{job_of}
use Rattle.drm_svg.specs.declared.placing.Placed.{Placed}
use Rattle.drm_svg.proofs.Pens.{adds_next}
use Rattle.drm_svg.proofs.bars.put_bars.Goals as goal

pub loop-bar-preserved : goal.loop-bar-preserved
loop-bar-preserved c =
    adds_next (λ (bar : Placed). bar_text (job_of c.args.picture.now bar.bar) bar) c.args.bars.now c.loop-bar.bar-index _ c.loop-bar-test.true
    c.loop-bar.invariant c.in_ok-put_bar_of.ensures
