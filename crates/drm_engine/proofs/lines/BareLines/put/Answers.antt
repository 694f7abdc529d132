use Rattle.drm_engine.proofs.Pieces.{kept_so_far}
use Rattle.drm_engine.proofs.lines.BareLines.put.Goals as goal

pub returns : goal.returns
returns g c = λ before event noted step. rw c.put_line.ensures (kept_so_far c.args._writer.now _)
