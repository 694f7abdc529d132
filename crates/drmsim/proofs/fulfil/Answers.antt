use Rattle.drmsim.proofs.Statuses.{told_unread}
use Rattle.drmsim.proofs.fulfil.Goals as goal

pub returns-in-Explain-clause-failures : goal.returns-in-Explain-clause-failures
returns-in-Explain-clause-failures g c =
    told_unread _ c.args.reader.now c.args.writer.now c.tell_word.new.writer c.tell_word.result c.tell_word.ensures.ending c.tell_word.ensures.failures
