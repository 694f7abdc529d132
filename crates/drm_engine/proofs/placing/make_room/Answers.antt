use Rattle.drm_engine.proofs.Pieces.{kept_so_far}
use Rattle.drm_engine.proofs.placing.make_room.Goals as goal

pub returns-then-len-le-ENOUGH-clause-told : goal.returns-then-len-le-ENOUGH-clause-told
returns-then-len-le-ENOUGH-clause-told g c = kept_so_far c.args.writer.now c.args.piece.now
