use Rattle.std.proofs.Common.{rules}
use Rattle.drm_sched.proofs.heads.Heads.prepare_next.Goals as goal

pub returns : goal.returns
returns c = search rules
