use Rattle.std.proofs.Common.{◌≡◌, ◌<◌, length}
use Rattle.std.specs.Prelude.{OnOk}
use Rattle.drm_core.specs.Lawful.{IsLawful}
use Rattle.drm_core.specs.Run.{AllNamesExist}
use Rattle.drm_engine.proofs.Pieces.{SaidOfPart}
use Rattle.drm_engine.proofs.replaying.tell_chunk.Given as goal

abbrev pub invariant-loop-answer : goal.invariant-loop-answer
invariant-loop-answer g l = record {
  names : AllNamesExist l.core.device.spec l.rest;
  spec : l.core.device.spec ≡ l.fn.core.device.spec;
  lawful : IsLawful l.core;
  known : g.L.Lines.knows l.lines l.core;
  short : OnOk l.told (length l.piece < 32768);
  so_far : SaidOfPart g.L.Lines.line l.fn.writer l.writer l.fn.core l.core l.fn.chunk l.rest l.fn.before l.told l.fn.piece l.piece;
}

abbrev pub decreases-loop-answer : goal.decreases-loop-answer
decreases-loop-answer g l = length l.rest
