use Rattle.std.proofs.Common.{rules}
use Rattle.drm_script.specs.Run.{jobs_of}
use Rattle.drm_script.proofs.run_script.read_jobs.Goals as goal

pub loop-line-preserved : goal.loop-line-preserved
unfolding jobs_of
loop-line-preserved c = search rules

pub returns-in_err-job : goal.returns-in_err-job
unfolding jobs_of
returns-in_err-job c = search rules
