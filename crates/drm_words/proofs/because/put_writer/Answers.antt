use Rattle.std.specs.Prelude.{codes}
use Rattle.drm_words.specs.Because.{reason_text}
use Rattle.drm_engine.proofs.Putting.{front_then, said_more}
use Rattle.std.proofs.lemmas.Result.{err_from_is_err_and}
use Rattle.drm_words.proofs.because.put_writer.Goals as goal

pub returns-in_err-put_bytes : goal.returns-in_err-put_bytes
returns-in_err-put_bytes g c =
    let p = err_from_is_err_and c.from_residual.result c.from_residual.ensures.1 in
    rw p.1 (front_then c.args.writer.now c.put_bytes.new.writer c.args.piece.now (codes ", which ")
    (reason_text c.args.device.now.state c.args.number) c.in_err-put_bytes.ensures)

pub returns : goal.returns
returns g c =
    said_more c.args.writer.now c.put_bytes.new.writer c.put_reason.new.writer c.put_reason.result c.args.piece.now (codes ", which ")
    (reason_text c.args.device.now.state c.args.number) c.put_bytes.new.piece c.put_reason.new.piece c.in_ok-put_bytes.ensures c.put_reason.ensures
