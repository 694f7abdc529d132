use Rattle.std.proofs.Common.{rules}
use Rattle.drm_parse.specs.Job.{number_alone}
use Rattle.drm_parse.proofs.job.last_number.Goals as goal

pub returns-in-Some : goal.returns-in-Some
unfolding number_alone
returns-in-Some c = search rules
