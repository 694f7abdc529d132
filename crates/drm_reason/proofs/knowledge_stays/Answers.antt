use Rattle.drm_reason.proofs.Looks.{knowledge_stays as stays}
use Rattle.drm_reason.proofs.knowledge_stays.Goals as goal

pub returns : goal.returns
returns c = stays
