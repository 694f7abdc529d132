use Rattle.std.proofs.Common.{rules}
use Rattle.drm_runq.proofs.queue.place_of.Goals as goal

pub returns-clause-after : goal.returns-clause-after
returns-clause-after c = search rules
