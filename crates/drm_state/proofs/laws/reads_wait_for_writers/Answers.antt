use Rattle.drm_state.proofs.EventsKept.{reads_wait}
use Rattle.drm_state.proofs.laws.reads_wait_for_writers.Goals as goal

pub returns : goal.returns
returns c = reads_wait
