use Rattle.drm_state.proofs.Covering.{covers}
use Rattle.drm_state.proofs.laws.collected_covers.Goals as goal

pub returns : goal.returns
returns c = covers c.jobs_are_the_sound_drafts.ensures
