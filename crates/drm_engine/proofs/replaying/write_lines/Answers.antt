use Rattle.std.proofs.lemmas.Result.{err_from_is_err_and}
use Rattle.drm_engine.proofs.Pieces.{all_written, told_written}
use Rattle.drm_engine.proofs.replaying.write_lines.Goals as goal

pub returns-in_err-tell_answers : goal.returns-in_err-tell_answers
returns-in_err-tell_answers g c =
    let p = err_from_is_err_and c.from_residual.result c.from_residual.ensures.1 in rw p.1 c.in_err-tell_answers.ensures

pub returns : goal.returns
returns g c =
    let told = c.in_ok-tell_answers.ensures in (
      told.0,
      told.1,
      told.2,
      all_written c.args.writer.now c.write_to.new.writer c.write_to.result told.1 c.write_to.new.self c.write_to.ensures.bare
          (told_written c.args.writer.now c.tell_answers.new.writer c.write_to.new.writer c.write_to.result told.1 c.tell_answers.new.piece c.write_to.new.self told.3 c.write_to.ensures.told),
    )
