use Rattle.std.proofs.Common.{◌≡◌}
use Rattle.drm_buffer.specs.Memory.{range_sums}
use Rattle.drm_buffer.proofs.Sums.{filled_from}
use Rattle.drm_buffer.proofs.ranges.add_falling.Given as goal

abbrev pub invariant-loop-i : goal.invariant-loop-i
invariant-loop-i l =
    l.bytes ≡ filled_from l.initial.bytes l.target_offset (range_sums l.initial.bytes l.initial.bytes l.target_offset l.source_offset l.len) l.i
