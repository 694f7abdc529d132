use Rattle.std.proofs.Common.{◌≡◌, ◌*◌}
use Rattle.std.proofs.Math.Seq.{paste}
use Rattle.drm_buffer.specs.Memory.{range_sums}
use Rattle.drm_buffer.proofs.ranges.add_rising.Given as goal

abbrev pub invariant-loop-block : goal.invariant-loop-block
invariant-loop-block l =
    l.bytes ≡ paste l.fn.bytes l.target_offset (range_sums l.fn.bytes l.fn.bytes l.target_offset l.source_offset l.len) (l.block * 16)

abbrev pub invariant-loop-i : goal.invariant-loop-i
invariant-loop-i l =
    l.bytes ≡ paste l.fn.bytes l.target_offset (range_sums l.fn.bytes l.fn.bytes l.target_offset l.source_offset l.len) l.i
