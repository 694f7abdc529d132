use Rattle.std.proofs.Common.{arith, ap, ◌*◌, ◌∙◌}
use Rattle.std.proofs.Math.Seq.{paste}
use Rattle.drm_buffer.specs.Memory.{range_sums}
use Rattle.drm_buffer.proofs.Lanes.{lanes_rise_within}
use Rattle.drm_buffer.proofs.Sums.{sums_rise, sums_risen, risen_source}
use Rattle.drm_buffer.proofs.ranges.add_rising.Goals as goal

pub loop-block-preserved : goal.loop-block-preserved
loop-block-preserved c =
    c.add_lanes_within.ensures
    ∙ (lanes_rise_within c.args.bytes.now c.loop-block.bytes c.args.target_offset c.args.source_offset c.args.len (c.loop-block.block * 16) 16
    c.requires.order c.requires.source (omega arith) c.loop-block.invariant
    ∙ ap (paste c.args.bytes.now c.args.target_offset (range_sums c.args.bytes.now c.args.bytes.now c.args.target_offset c.args.source_offset c.args.len)) (omega arith))

pub loop-i-init : goal.loop-i-init
loop-i-init c = c.loop-block.invariant ∙ ap (λ n. paste c.args.bytes.now c.args.target_offset (range_sums c.args.bytes.now c.args.bytes.now c.args.target_offset c.args.source_offset c.args.len) (n * 16)) (omega arith)

pub loop-i-preserved : goal.loop-i-preserved
loop-i-preserved c =
    sums_rise c.args.bytes.now c.args.bytes.now c.args.target_offset c.args.source_offset c.args.len c.loop-i.i c.loop-i.bytes _
    (omega arith) c.requires.source c.loop-i-test.true c.loop-i.invariant
    (risen_source c.args.bytes.now c.args.target_offset c.args.source_offset c.args.len c.loop-i.i c.loop-i.bytes c.requires.order c.requires.source c.loop-i-test.true c.loop-i.invariant)

pub returns : goal.returns
returns c =
    sums_risen c.args.bytes.now c.args.bytes.now c.args.target_offset c.args.source_offset c.args.len c.loop-i.i c.loop-i.bytes
    (omega arith) c.requires.source (omega arith) c.loop-i.invariant
