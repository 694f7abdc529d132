use Rattle.std.proofs.Common.{List, length}
use Rattle.drm_state.specs.declared.answer.Answer.{Answer}
use Rattle.drm_core.specs.Run.{AllNamesExist}
use Rattle.drm_engine.proofs.Pieces.{GoesOn}
use Rattle.drm_script_writer.proofs.recording.take_all.Given as goal

abbrev pub invariant-loop-event : goal.invariant-loop-event
invariant-loop-event l = record {
  names : AllNamesExist l.core.device.spec l.rest;
  so_far : (given : List Answer) × GoesOn l.fn.core l.fn.events given l.core l.rest;
}

abbrev pub decreases-loop-event : goal.decreases-loop-event
decreases-loop-event l = length l.rest
