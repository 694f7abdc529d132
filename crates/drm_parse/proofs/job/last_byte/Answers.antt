use Rattle.std.proofs.Common.{rules}
use Rattle.drm_parse.specs.Job.{byte_alone}
use Rattle.drm_parse.proofs.job.last_byte.Goals as goal

pub returns : goal.returns
unfolding byte_alone
returns c = search rules
