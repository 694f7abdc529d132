use Rattle.std.proofs.Common.{◌≡◌, ◌<◌, None, length}
use Rattle.std.specs.Prelude.{OnOk}
use Rattle.drm_types.specs.Limits.{spec_fault}
use Rattle.drm_core.specs.Lawful.{IsLawful}
use Rattle.drm_core.specs.Run.{AllNamesExist}
use Rattle.drm_script.specs.Chunks.{all_of}
use Rattle.drm_engine.proofs.Pieces.{SaidSoFar}
use Rattle.drm_engine.proofs.replaying.tell_answers.Given as goal

abbrev pub invariant-loop-chunk : goal.invariant-loop-chunk
invariant-loop-chunk g l = record {
  names : AllNamesExist l.core.device.spec (all_of l.chunks);
  lawful : IsLawful l.core;
  limits : spec_fault l.core.device.spec ≡ None;
  known : g.L.Lines.knows l.lines l.core;
  short : OnOk l.told (length l.piece < 32768);
  so_far : SaidSoFar g.L.Lines.line l.fn.writer l.writer l.fn.core l.core l.fn.events (all_of l.chunks) l.told l.piece;
}

abbrev pub decreases-loop-chunk : goal.decreases-loop-chunk
decreases-loop-chunk g l = length l.chunks
