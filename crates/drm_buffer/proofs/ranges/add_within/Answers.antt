use Rattle.std.proofs.Common.{rules}
use Rattle.drm_buffer.proofs.ranges.add_within.Goals as goal

pub add_rising-requires-clause-order : goal.add_rising-requires-clause-order
add_rising-requires-clause-order c = search rules

pub add_falling-requires-clause-order : goal.add_falling-requires-clause-order
add_falling-requires-clause-order c = search rules
