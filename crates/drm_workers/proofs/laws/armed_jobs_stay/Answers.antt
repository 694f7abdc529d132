use Rattle.drm_workers.proofs.Rising.{jobs_stay}
use Rattle.drm_workers.proofs.laws.armed_jobs_stay.Goals as goal

pub returns : goal.returns
returns c = jobs_stay
