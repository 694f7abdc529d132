use Rattle.drm_state.proofs.Least.{chooses_least}
use Rattle.drm_state.proofs.laws.choice_is_least.Goals as goal

pub returns : goal.returns
returns c = chooses_least
