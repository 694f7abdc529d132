use Rattle.std.proofs.Common.{◌∷◌, []}
use Rattle.std.proofs.lemmas.Result.{err_from_is_err_and}
use Rattle.drm_engine.proofs.Pieces.{front_longer, kept_so_far, so_far_behind}
use Rattle.drm_engine.proofs.piece.Piece.push.Goals as goal

pub returns-then-len-lt-ROOM : goal.returns-then-len-lt-ROOM
returns-then-len-lt-ROOM g c = rw c.put.ensures (kept_so_far c.args.writer.now _)

pub returns-in_err-write_to : goal.returns-in_err-write_to
returns-in_err-write_to g c =
    let p = err_from_is_err_and c.from_residual.result c.from_residual.ensures.1 in
    rw p.1 (front_longer c.args.writer.now c.write_to.new.writer c.args.self.now (c.args.byte ∷ []) c.in_err-write_to.ensures.told)

pub returns : goal.returns
returns g c = rw c.put-2.ensures (so_far_behind c.args.writer.now c.write_to.new.writer c.args.self.now c.write_to.new.self (c.args.byte ∷ []) c.in_ok-write_to.ensures.told)
