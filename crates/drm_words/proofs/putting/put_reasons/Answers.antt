use Rattle.drm_words.specs.Because.{because, letting_go}
use Rattle.drm_engine.proofs.Putting.{said_more}
use Rattle.drm_words.proofs.putting.put_reasons.Goals as goal

pub returns : goal.returns
returns g c =
    said_more c.args.writer.now c.put_because.new.writer c.put_letting_go.new.writer c.put_letting_go.result c.args.piece.now
    (because c.args.core.now c.args.subject.now c.args.missing c.args.answer.now) (letting_go c.args.core.now.device c.args.answer.now) c.put_because.new.piece
    c.put_letting_go.new.piece c.in_ok-put_because.ensures (rw c.device.ensures.state at c.put_letting_go.ensures)
