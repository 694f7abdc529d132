use Rattle.std.proofs.Common.{◌++◌, ◌∷◌, []}
use Rattle.drm_words.specs.Because.{because, letting_go}
use Rattle.drm_words.specs.Lines.{line_behind}
use Rattle.drm_engine.proofs.Putting.{said_more}
use Rattle.drm_words.proofs.putting.put_behind.Goals as goal

pub returns : goal.returns
unfolding line_behind
returns g c =
    said_more c.args.writer.now c.put_reasons.new.writer c.push.new.writer c.push.result c.args.piece.now
    (because c.args.core.now c.args.subject.now c.args.missing c.args.answer.now ++ letting_go c.args.core.now.device c.args.answer.now) (10 ∷ [])
    c.put_reasons.new.piece c.push.new.self c.in_ok-put_reasons.ensures c.push.ensures
