use Rattle.std.proofs.Common.{arith, refl, ap, ◌*◌, ◌∙◌}
use Rattle.std.proofs.Math.Seq.{paste}
use Rattle.drm_buffer.specs.Memory.{range_sums}
use Rattle.drm_buffer.proofs.Lanes.{lanes_rise}
use Rattle.drm_buffer.proofs.Sums.{sums_rise, sums_risen}
use Rattle.drm_buffer.proofs.ranges.add.Goals as goal

pub loop-block-preserved : goal.loop-block-preserved
loop-block-preserved c =
    c.add_lanes.ensures
    ∙ (lanes_rise c.args.target.now c.args.source.now c.loop-block.target c.args.source.now c.args.target_offset c.args.source_offset c.args.len (c.loop-block.block * 16) 16
    c.requires.target c.requires.source (omega arith) c.requires.source c.loop-block.invariant (λ k lt. refl)
    ∙ ap (paste c.args.target.now c.args.target_offset (range_sums c.args.target.now c.args.source.now c.args.target_offset c.args.source_offset c.args.len)) (omega arith))

pub loop-i-init : goal.loop-i-init
loop-i-init c = c.loop-block.invariant ∙ ap (λ n. paste c.args.target.now c.args.target_offset (range_sums c.args.target.now c.args.source.now c.args.target_offset c.args.source_offset c.args.len) (n * 16)) (omega arith)

pub loop-i-preserved : goal.loop-i-preserved
loop-i-preserved c =
    sums_rise c.args.target.now c.args.source.now c.args.target_offset c.args.source_offset c.args.len c.loop-i.i c.loop-i.target _
    c.requires.target c.requires.source c.loop-i-test.true c.loop-i.invariant refl

pub returns : goal.returns
returns c =
    sums_risen c.args.target.now c.args.source.now c.args.target_offset c.args.source_offset c.args.len c.loop-i.i c.loop-i.target
    c.requires.target c.requires.source (omega arith) c.loop-i.invariant
