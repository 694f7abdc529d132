use Rattle.std.proofs.Common.{arith, ◌-◌}
use Rattle.drm_buffer.proofs.Sums.{sums_fall, sums_unfallen, sums_fallen}
use Rattle.drm_buffer.proofs.ranges.add_falling.Goals as goal

pub loop-i-init : goal.loop-i-init
loop-i-init c = sums_unfallen c.args.bytes.now c.args.target_offset c.args.source_offset c.args.len c.requires.order c.requires.target

pub loop-i-preserved : goal.loop-i-preserved
loop-i-preserved c =
    sums_fall c.args.bytes.now c.args.target_offset c.args.source_offset c.args.len (c.loop-i.i - 1) c.loop-i.i c.loop-i.bytes
    c.requires.order c.requires.target (omega arith) (omega arith) c.loop-i.invariant

pub returns : goal.returns
returns c = sums_fallen c.args.bytes.now c.args.target_offset c.args.source_offset c.args.len c.loop-i.i c.loop-i.bytes (omega arith) c.loop-i.invariant
