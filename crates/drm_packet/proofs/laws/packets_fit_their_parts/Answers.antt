use Rattle.drm_packet.proofs.InStores.{parts_fit}
use Rattle.drm_packet.proofs.laws.packets_fit_their_parts.Goals as goal

pub returns : goal.returns
returns c = parts_fit
