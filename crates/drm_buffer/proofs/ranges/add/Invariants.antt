use Rattle.std.proofs.Common.{◌≡◌, ◌*◌}
use Rattle.std.proofs.Math.Seq.{paste}
use Rattle.drm_buffer.specs.Memory.{range_sums}
use Rattle.drm_buffer.proofs.ranges.add.Given as goal

abbrev pub invariant-loop-block : goal.invariant-loop-block
invariant-loop-block l =
    l.target ≡ paste l.fn.target l.target_offset (range_sums l.fn.target l.source l.target_offset l.source_offset l.len) (l.block * 16)

abbrev pub invariant-loop-i : goal.invariant-loop-i
invariant-loop-i l =
    l.target ≡ paste l.fn.target l.target_offset (range_sums l.fn.target l.source l.target_offset l.source_offset l.len) l.i
