use Rattle.std.proofs.Common.{◌≡◌, List, length, map}
use Rattle.drm_state.specs.declared.answer.Answer.{Answer}
use Rattle.drm_core.specs.Run.{AllNamesExist}
use Rattle.drm_engine.proofs.Pieces.{GoesOn}
use Rattle.drm_draw.proofs.Steps.{CommandsSoFar}
use Rattle.drm_draw.proofs.drawing.take_steps.Given as goal

abbrev pub invariant-loop-event : goal.invariant-loop-event
invariant-loop-event l = record {
  names : AllNamesExist l.core.device.spec l.rest;
  so_far : (given : List Answer) × GoesOn l.fn.core l.fn.events given l.core l.rest × (map (λ step. step.answer) l.steps.items ≡ given);
  commands : CommandsSoFar l.fn.events l.rest l.steps.items;
}

abbrev pub decreases-loop-event : goal.decreases-loop-event
decreases-loop-event l = length l.rest
