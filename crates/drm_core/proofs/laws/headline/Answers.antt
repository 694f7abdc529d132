use Rattle.drm_core.proofs.HeadlineKept.{headline as kept}
use Rattle.drm_core.proofs.laws.headline.Goals as goal

pub returns : goal.returns
returns c = kept c.device_laws.ensures
