use Rattle.std.specs.Prelude.{codes}
use Rattle.std.proofs.lemmas.Result.{err_from_is_err_and}
use Rattle.drm_words.proofs.Telling.{front_two_and_bare, told_two_and_bare}
use Rattle.drm_words.proofs.putting.put_released.Goals as goal

pub returns-in_err-put_counted : goal.returns-in_err-put_counted
returns-in_err-put_counted g c =
    let p = err_from_is_err_and c.from_residual.result c.from_residual.ensures.1 in
    rw p.1 (front_two_and_bare c.args.writer.now c.put_counted.new.writer c.args.piece.now (codes ", and lets fence ") (codes " of entity ") (codes " go") c.args.number c.args.entity
    c.in_err-put_counted.ensures)

pub returns : goal.returns
returns g c =
    told_two_and_bare c.args.writer.now c.put_counted.new.writer c.put_counted-2.new.writer c.put_counted-2.result c.args.piece.now (codes ", and lets fence ") (codes " of entity ")
    (codes " go") c.put_counted.new.piece c.put_counted-2.new.piece c.args.number c.args.entity c.in_ok-put_counted.ensures c.put_counted-2.ensures
