use Rattle.std.proofs.Common.{◌-◌, length}
use Rattle.drm_ring.specs.RingRows.{HasPassed}
use Rattle.drm_ring.proofs.pending.count_passed.Given as goal

abbrev pub invariant-loop-passed : goal.invariant-loop-passed
invariant-loop-passed g l = HasPassed (goal.F-post g l.is_open) l.pending.items l.fn.known l.passed

abbrev pub decreases-loop-passed : goal.decreases-loop-passed
decreases-loop-passed g l = length l.pending.items - l.passed
