use Rattle.std.proofs.Common.{rules}
use Rattle.drm_runq.proofs.queue.is_before.Goals as goal

pub returns-then-rank-other : goal.returns-then-rank-other
returns-then-rank-other c = search rules

pub returns-else-rank-other-2 : goal.returns-else-rank-other-2
returns-else-rank-other-2 c = search rules

pub returns-then-place-key : goal.returns-then-place-key
returns-then-place-key c = search rules

pub returns-else-place-key-2 : goal.returns-else-place-key-2
returns-else-place-key-2 c = search rules
