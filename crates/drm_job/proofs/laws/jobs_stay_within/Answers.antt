use Rattle.drm_job.proofs.Within.{stays_within}
use Rattle.drm_job.proofs.laws.jobs_stay_within.Goals as goal

pub returns : goal.returns
returns c = stays_within
