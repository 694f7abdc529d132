use Rattle.std.proofs.Common.{[], refl}
use Rattle.std.proofs.lemmas.Result.{err_from_is_err_and}
use Rattle.drm_words.proofs.Parts.{part_front, part_told, parts_told}
use Rattle.drm_engine.proofs.Putting.{told_nothing}
use Rattle.drm_words.proofs.reasons.put_parts.Goals as goal

pub loop-part-init : goal.loop-part-init
loop-part-init g c = ([], refl, told_nothing c.args.writer.now c.args.piece.now)

pub loop-part-preserved : goal.loop-part-preserved
loop-part-preserved g c =
    part_told c.args.writer.now c.loop-part.writer c.put_part.new.writer c.args.piece.now c.loop-part.piece c.put_part.new.piece c.args.parts.now c.loop-part.part-index _
    c.loop-part.invariant c.loop-part-test.true c.in_ok-put_part.ensures

pub returns-in_err-put_part : goal.returns-in_err-put_part
returns-in_err-put_part g c =
    let p = err_from_is_err_and c.from_residual.result c.from_residual.ensures.1 in
    rw p.1 (part_front c.args.writer.now c.loop-part.writer c.put_part.new.writer c.args.piece.now c.loop-part.piece c.args.parts.now c.loop-part.part-index _
    c.loop-part.invariant c.loop-part-test.true c.in_err-put_part.ensures)

pub returns : goal.returns
returns g c =
    parts_told c.args.writer.now c.loop-part.writer c.args.piece.now c.loop-part.piece c.args.parts.now c.loop-part.part-index c.loop-part-test.false c.loop-part.invariant
