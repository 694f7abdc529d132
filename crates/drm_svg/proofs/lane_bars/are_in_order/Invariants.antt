use Rattle.std.proofs.Common.{ℕ, ◌<◌, ◌≤◌, get_or}
use Rattle.drm_svg.specs.LaneBars.{order_of}
use Rattle.drm_svg.specs.declared.placing.Placed.{Placed}
use Rattle.drm_svg.proofs.lane_bars.are_in_order.Given as goal

abbrev pub invariant-loop-placed : goal.invariant-loop-placed
invariant-loop-placed l = record {
  rise : (i j : ℕ) (d : Placed) → i ≤ j → j < l.placed-index → order_of (get_or l.bars i d) ≤ order_of (get_or l.bars j d);
  last : (k : ℕ) (d : Placed) → k < l.placed-index → order_of (get_or l.bars k d) ≤ l.last;
}
