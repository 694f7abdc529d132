use Rattle.std.proofs.Common.{length}
use Rattle.drm_orders_tests.proofs.counting.all_events.Given as goal

abbrev pub decreases-loop-event : goal.decreases-loop-event
decreases-loop-event l = length l.rest
