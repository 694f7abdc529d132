use Rattle.std.proofs.Common.{rules}
use Rattle.drm_job.proofs.conflict.must_wait.Goals as goal

pub returns : goal.returns
returns c = search rules
