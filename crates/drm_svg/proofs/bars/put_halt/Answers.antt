use Rattle.drm_svg.proofs.Parts.{halt_is}
use Rattle.drm_svg.proofs.Pens.{adds_more, adds_same, adds_two}
use Rattle.drm_svg.proofs.bars.put_halt.Goals as goal

pub returns : goal.returns
returns c = adds_same (halt_is c.args.bar.now) (adds_more c.in_ok-put_front.ensures.text (adds_two _ _ _ _ _ c.put_halt_rest.ensures))
