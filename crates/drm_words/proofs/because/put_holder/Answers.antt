use Rattle.std.specs.Prelude.{codes}
use Rattle.std.proofs.lemmas.Result.{err_from_is_err_and}
use Rattle.drm_words.proofs.Telling.{front_two, told_two}
use Rattle.drm_words.proofs.because.put_holder.Goals as goal

pub returns-in_err-put_counted : goal.returns-in_err-put_counted
returns-in_err-put_counted g c =
    let p = err_from_is_err_and c.from_residual.result c.from_residual.ensures.1 in
    rw p.1 (front_two c.args.writer.now c.put_counted.new.writer c.args.piece.now (codes ": context ") (codes " holds buffer ") c.args.ctx c.args.buffer c.in_err-put_counted.ensures)

pub returns : goal.returns
returns g c =
    told_two c.args.writer.now c.put_counted.new.writer c.put_number.new.writer c.put_number.result c.args.piece.now (codes ": context ") (codes " holds buffer ")
    c.put_counted.new.piece c.put_number.new.piece c.args.ctx c.args.buffer c.in_ok-put_counted.ensures (rw c.from.ensures at c.put_number.ensures)
