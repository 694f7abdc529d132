use Rattle.std.proofs.Common.{ap}
use Rattle.drm_svg.specs.Head.{lane_text}
use Rattle.drm_svg.proofs.Pens.{adds_next, adds_same}
use Rattle.drm_svg.proofs.head.put_lanes.Goals as goal

pub loop-rows-preserved : goal.loop-rows-preserved
loop-rows-preserved c =
    adds_next (lane_text c.args.picture.now) c.args.lanes.now c.loop-rows.rows-index c.rows-item.result c.loop-rows-test.true
    c.loop-rows.invariant (adds_same (ap (lane_text c.args.picture.now) c.rows-item.is) c.in_ok-put_lane.ensures)
