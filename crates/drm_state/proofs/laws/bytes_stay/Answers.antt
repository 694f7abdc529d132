use Rattle.drm_state.proofs.BytesKept.{bytes_stay}
use Rattle.drm_state.proofs.laws.bytes_stay.Goals as goal

pub returns : goal.returns
returns c = bytes_stay
