use Rattle.std.proofs.Common.{rules}
use Rattle.drm_parse.specs.Job.{job_at}
use Rattle.drm_parse.proofs.job.fill_job.Goals as goal

pub returns : goal.returns
unfolding job_at
returns c = search rules
