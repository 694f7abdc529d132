use Rattle.std.proofs.Common.{◌∙◌, sym}
use Rattle.drm_engine.proofs.Pieces.{piece_lost, piece_written}
use Rattle.drm_engine.proofs.piece.Piece.write_to.Goals as goal

pub returns-then-is_written-clause-told : goal.returns-then-is_written-clause-told
returns-then-is_written-clause-told g c =
    piece_written c.args.writer.now c.put_all.new.writer c.put_all.result c.args.self.now c.clear.new.self (sym c.is_ok-is_written.ensures.value ∙ c.if-is_written.true)
    (rw c.as_slice.ensures at c.put_all.ensures.ok) c.put_all.ensures.failures c.clear.ensures

pub returns-else-is_written-clause-told : goal.returns-else-is_written-clause-told
returns-else-is_written-clause-told g c =
    piece_lost c.args.writer.now c.put_all.new.writer c.put_all.result c.args.self.now (sym c.is_ok-is_written.ensures.value ∙ c.if-is_written.false)
    (rw c.as_slice.ensures at c.put_all.ensures.err) c.put_all.ensures.failures
