use Rattle.std.proofs.Common.{arith, length}
use Rattle.drm_svg.proofs.Lanes.{next_lane}
use Rattle.drm_svg.proofs.layout.stack.Goals as goal

pub loop-lane-preserved : goal.loop-lane-preserved
loop-lane-preserved c =
    next_lane c.args.picture.now c.args.lanes.now c.loop-lane.lane-index _ c.loop-lane.rows.items c.push.new.self.items c.in_ok-lane_rows.field-0 (length c.loop-lane.ends.items) (length c.lane_rows.new.ends.items)
    (omega arith) c.loop-lane.invariant c.in_ok-lane_rows.ensures.lane c.in_ok-lane_rows.ensures.top c.in_ok-lane_rows.ensures.below c.in_ok-lane_rows.ensures.rows c.in_ok-push.ensures.items
