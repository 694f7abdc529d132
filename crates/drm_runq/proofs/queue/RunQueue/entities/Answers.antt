use Rattle.std.proofs.Common.{rules}
use Rattle.drm_runq.proofs.queue.RunQueue.entities.Goals as goal

pub returns : goal.returns
returns c = search rules
