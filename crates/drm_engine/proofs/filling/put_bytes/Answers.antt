use Rattle.std.proofs.Common.{refl}
use Rattle.std.proofs.lemmas.Result.{err_from_is_err_and}
use Rattle.drm_engine.proofs.Pieces.{kept_so_far}
use Rattle.drm_engine.proofs.Putting.{byte_front, byte_told, bytes_told, told_nothing}
use Rattle.drm_engine.proofs.filling.put_bytes.Goals as goal

pub returns-then-count-room : goal.returns-then-count-room
returns-then-count-room g c = rw c.put_all.ensures (kept_so_far c.args.writer.now _)

pub loop-byte-init : goal.loop-byte-init
loop-byte-init g c = told_nothing c.args.writer.now c.args.piece.now

pub loop-byte-preserved : goal.loop-byte-preserved
loop-byte-preserved g c =
    byte_told c.args.writer.now c.loop-byte.writer c.push.new.writer c.args.piece.now c.args.bytes.now c.loop-byte.byte-index c.loop-byte.piece c.push.new.self
    c.loop-byte-test.true c.loop-byte.invariant c.in_ok-push.ensures

pub returns-in_err-push : goal.returns-in_err-push
returns-in_err-push g c =
    let p = err_from_is_err_and c.from_residual.result c.from_residual.ensures.1 in
    rw p.1 (byte_front c.args.writer.now c.loop-byte.writer c.push.new.writer c.args.piece.now c.args.bytes.now _ c.loop-byte.byte-index c.loop-byte.piece
    c.loop-byte-test.true refl c.loop-byte.invariant c.in_err-push.ensures)

pub returns : goal.returns
returns g c =
    bytes_told c.args.writer.now c.loop-byte.writer c.args.piece.now c.args.bytes.now _ c.loop-byte.byte-index c.loop-byte.piece c.loop-byte-test.false
    refl c.loop-byte.invariant
