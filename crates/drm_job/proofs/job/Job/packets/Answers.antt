use Rattle.std.proofs.Common.{rules}
use Rattle.drm_job.proofs.job.Job.packets.Goals as goal

pub returns-clause-packets : goal.returns-clause-packets
returns-clause-packets c = search rules
