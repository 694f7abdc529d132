use Rattle.drm_packet.proofs.PartEffects.{parts_make_the_effect}
use Rattle.drm_packet.proofs.laws.parts_make_the_effect.Goals as goal

pub returns : goal.returns
returns c = parts_make_the_effect
