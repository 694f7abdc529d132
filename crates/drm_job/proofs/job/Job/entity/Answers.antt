use Rattle.std.proofs.Common.{rules}
use Rattle.drm_job.proofs.job.Job.entity.Goals as goal

pub returns : goal.returns
returns c = search rules
