use Rattle.std.proofs.Common.{rules}
use Rattle.ww_lock.proofs.board.Board.split.Goals as goal

pub returns-clause-views : goal.returns-clause-views
returns-clause-views g c = search rules
