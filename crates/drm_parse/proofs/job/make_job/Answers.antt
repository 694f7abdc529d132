use Rattle.std.proofs.Common.{rules}
use Rattle.drm_parse.specs.Job.{is_job}
use Rattle.drm_parse.proofs.job.make_job.Goals as goal

pub returns-in-Ok-clause-none : goal.returns-in-Ok-clause-none
unfolding is_job
returns-in-Ok-clause-none c = search rules
