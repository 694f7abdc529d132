use Rattle.std.proofs.lemmas.Result.{err_from_is_err_and}
use Rattle.drm_engine.proofs.Pieces.{told_written}
use Rattle.drm_engine.proofs.replaying.tell.Goals as goal

pub returns-in_err-put-clause-told : goal.returns-in_err-put-clause-told
returns-in_err-put-clause-told g c =
    let p = err_from_is_err_and c.from_residual.result c.from_residual.ensures.1 in λ before event noted step. rw p.1 (c.in_err-put.ensures before event noted step)

pub returns-then-len-lt-PIECE-clause-told : goal.returns-then-len-lt-PIECE-clause-told
returns-then-len-lt-PIECE-clause-told g c = λ before event noted step. c.in_ok-put.ensures before event noted step

pub returns-clause-told : goal.returns-clause-told
returns-clause-told g c = λ before event noted step.
    told_written c.args.writer.now c.put.new.writer c.write_to.new.writer c.write_to.result _ c.put.new.piece c.write_to.new.self (c.in_ok-put.ensures before event noted step)
    c.write_to.ensures.told
