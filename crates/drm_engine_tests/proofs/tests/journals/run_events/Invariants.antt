use Rattle.std.proofs.Common.{length}
use Rattle.drm_core.specs.Run.{AllNamesExist}
use Rattle.drm_engine_tests.proofs.tests.journals.run_events.Given as goal

abbrev pub invariant-loop-event : goal.invariant-loop-event
invariant-loop-event l = AllNamesExist l.core.device.spec l.left

abbrev pub decreases-loop-event : goal.decreases-loop-event
decreases-loop-event l = length l.left
