use Rattle.drm_reason.proofs.Laws.{one_reason}
use Rattle.drm_reason.proofs.each_job_has_one_reason.Goals as goal

pub returns : goal.returns
returns c = one_reason c.choice_is_least.ensures
