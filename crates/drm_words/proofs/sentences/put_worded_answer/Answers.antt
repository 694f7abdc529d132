use Rattle.std.specs.Prelude.{codes}
use Rattle.std.proofs.lemmas.Result.{err_from_is_err_and}
use Rattle.drm_answer.specs.Answers.{words_of}
use Rattle.drm_engine.proofs.Pieces.{front_longer}
use Rattle.drm_words.specs.Lines.{worded_answer}
use Rattle.drm_words.specs.Sentences.{sentence_of}
use Rattle.drm_engine.proofs.Putting.{front_behind, told_behind}
use Rattle.drm_engine.proofs.Placings.{told_placed}
use Rattle.drm_words.proofs.sentences.put_worded_answer.Goals as goal

pub returns-in_err-make_room : goal.returns-in_err-make_room
unfolding worded_answer
returns-in_err-make_room g c =
    let p = err_from_is_err_and c.from_residual.result c.from_residual.ensures.1 in
    rw p.1 (front_behind c.args.writer.now c.make_room.new.writer c.args.piece.now (words_of c.args.answer.now) (codes "  # ") (sentence_of c.args.subject.now c.args.answer.now) c.put_answer.new.piece
    c.put_answer.ensures (front_longer c.args.writer.now c.make_room.new.writer c.put_answer.new.piece (codes "  # ") c.in_err-make_room.ensures.told))

pub returns : goal.returns
unfolding worded_answer
returns g c =
    told_behind c.args.writer.now c.make_room.new.writer c.put_sentence.new.writer c.put_sentence.result c.args.piece.now (words_of c.args.answer.now) (codes "  # ")
    (sentence_of c.args.subject.now c.args.answer.now) c.put_answer.new.piece c.put_all.new.self c.put_sentence.new.piece c.put_answer.ensures
    (told_placed c.args.writer.now c.make_room.new.writer c.put_answer.new.piece c.make_room.new.piece (codes "  # ") c.put_all.new.self c.in_ok-make_room.ensures.told c.put_all.ensures)
    c.put_sentence.ensures
