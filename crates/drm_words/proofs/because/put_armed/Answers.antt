use Rattle.std.proofs.Common.{◌++◌}
use Rattle.std.specs.Prelude.{codes}
use Rattle.std.specs.Fmt.{decimal}
use Rattle.drm_words.specs.Because.{reason_text}
use Rattle.drm_engine.proofs.Putting.{front_then, said_more}
use Rattle.std.proofs.lemmas.Result.{err_from_is_err_and}
use Rattle.drm_words.proofs.because.put_armed.Goals as goal

pub returns-in_err-put_counted : goal.returns-in_err-put_counted
returns-in_err-put_counted g c =
    let p = err_from_is_err_and c.from_residual.result c.from_residual.ensures.1 in
    rw (p.1, ← c.ring_of-ring.ensures) (front_then c.args.writer.now c.put_counted.new.writer c.args.piece.now
    (codes " for ring " ++ (decimal c.ring_of-ring.result ++ codes ": it ")) (reason_text c.args.device.now.state c.args.number) c.in_err-put_counted.ensures)

pub returns : goal.returns
returns g c =
    rw (← c.ring_of-ring.ensures) (said_more c.args.writer.now c.put_counted.new.writer c.put_reason.new.writer c.put_reason.result c.args.piece.now
    (codes " for ring " ++ (decimal c.ring_of-ring.result ++ codes ": it ")) (reason_text c.args.device.now.state c.args.number) c.put_counted.new.piece c.put_reason.new.piece
    c.in_ok-put_counted.ensures c.put_reason.ensures)
