use Rattle.drm_svg.proofs.Pens.{adds_more, adds_two}
use Rattle.drm_svg.proofs.waits.put_wait_between.Goals as goal

pub returns : goal.returns
returns c = adds_more c.in_ok-make_room.ensures.text (adds_two _ _ _ _ _ c.put_roomy.ensures)
