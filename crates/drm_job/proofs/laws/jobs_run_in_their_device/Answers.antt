use Rattle.drm_job.proofs.InRange.{runs_in}
use Rattle.drm_job.proofs.laws.jobs_run_in_their_device.Goals as goal

pub returns : goal.returns
returns c = runs_in
