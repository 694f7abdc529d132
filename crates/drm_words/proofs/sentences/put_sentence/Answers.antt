use Rattle.drm_engine.proofs.Pieces.{told_next}
use Rattle.drm_words.specs.Sentences.{sentence_of}
use Rattle.drm_engine.proofs.Placings.{told_placed}
use Rattle.drm_words.proofs.sentences.put_sentence.Goals as goal

pub returns-in-Refused : goal.returns-in-Refused
returns-in-Refused g c =
    rw c.in-Refused.is (told_next c.args.writer.now c.make_room.new.writer c.put_refused.new.writer c.put_refused.result c.args.piece.now _ c.make_room.new.piece c.put_refused.new.piece
    c.in_ok-make_room.ensures.told c.put_refused.ensures)

pub returns-in_default : goal.returns-in_default
returns-in_default g c =
    told_placed c.args.writer.now c.make_room.new.writer c.args.piece.now c.make_room.new.piece (sentence_of c.args.subject.now c.args.answer.now) c.place_said.new.piece
    c.in_ok-make_room.ensures.told c.place_said.ensures
