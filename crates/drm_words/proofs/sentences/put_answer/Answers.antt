use Rattle.drm_words.proofs.Ends.{without_end}
use Rattle.drm_words.proofs.sentences.put_answer.Goals as goal

pub returns : goal.returns
returns c = without_end c.args.piece.now c.put_line.new.self c.drop_last.new.self c.args.answer.now c.put_line.ensures c.drop_last.ensures
