use Rattle.std.proofs.Common.{length}
use Rattle.drm_core.specs.Run.{AllNamesExist}
use Rattle.drm_engine.proofs.Pieces.{GoesOn}
use Rattle.drm_expect.proofs.testing.take_answers.Given as goal

abbrev pub invariant-loop-event : goal.invariant-loop-event
invariant-loop-event l = record {
  names : AllNamesExist l.core.device.spec l.rest;
  so_far : GoesOn l.fn.core l.fn.events l.answers.items l.core l.rest;
}

abbrev pub decreases-loop-event : goal.decreases-loop-event
decreases-loop-event l = length l.rest
