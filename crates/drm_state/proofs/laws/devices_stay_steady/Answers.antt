use Rattle.drm_state.proofs.EventsKept.{stay_steady}
use Rattle.drm_state.proofs.laws.devices_stay_steady.Goals as goal

pub returns : goal.returns
returns c = stay_steady
