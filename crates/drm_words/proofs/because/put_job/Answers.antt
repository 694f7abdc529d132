use Rattle.std.proofs.Common.{◌∷◌, []}
use Rattle.std.specs.Prelude.{codes}
use Rattle.std.proofs.lemmas.Result.{err_from_is_err_and}
use Rattle.drm_reason.specs.Said.{bare, counted, text_of_parts}
use Rattle.drm_words.specs.Because.{reason_text}
use Rattle.drm_engine.proofs.Putting.{front_then}
use Rattle.drm_words.proofs.Telling.{front_two_and_bare, front_with_more, told_with_more}
use Rattle.drm_words.proofs.because.put_job.Goals as goal

pub returns-in_err-put_counted : goal.returns-in_err-put_counted
returns-in_err-put_counted g c =
    let p = err_from_is_err_and c.from_residual.result c.from_residual.ensures.1 in
    let entity = c.entity_of-entity.result in
    rw (p.1, ← c.entity_of-entity.ensures) (front_then c.args.writer.now c.put_counted.new.writer c.args.piece.now
    (text_of_parts (counted (codes ": fence ") c.args.number ∷ counted (codes " of entity ") entity ∷ bare c.args.role.now ∷ [])) (reason_text c.args.device.now.state c.args.number)
    (front_two_and_bare c.args.writer.now c.put_counted.new.writer c.args.piece.now (codes ": fence ") (codes " of entity ") c.args.role.now c.args.number entity c.in_err-put_counted.ensures))

pub returns-in_err-put_counted-2 : goal.returns-in_err-put_counted-2
returns-in_err-put_counted-2 g c =
    let p = err_from_is_err_and c.from_residual-in_err-put_counted-2.result c.from_residual-in_err-put_counted-2.ensures.1 in
    rw (p.1, ← c.entity_of-entity.ensures) (front_with_more c.args.writer.now c.put_counted.new.writer c.put_counted-2.new.writer c.args.piece.now (codes ": fence ") (codes " of entity ")
    c.args.role.now (reason_text c.args.device.now.state c.args.number) c.put_counted.new.piece c.args.number c.entity_of-entity.result c.in_ok-put_counted.ensures c.in_err-put_counted-2.ensures)

pub returns : goal.returns
returns g c =
    rw (← c.entity_of-entity.ensures) (told_with_more c.args.writer.now c.put_counted.new.writer c.put_counted-2.new.writer c.put_reason.new.writer c.put_reason.result c.args.piece.now
    (codes ": fence ") (codes " of entity ") c.args.role.now (reason_text c.args.device.now.state c.args.number) c.put_counted.new.piece c.put_counted-2.new.piece c.put_reason.new.piece
    c.args.number c.entity_of-entity.result c.in_ok-put_counted.ensures c.in_ok-put_counted-2.ensures c.put_reason.ensures)
