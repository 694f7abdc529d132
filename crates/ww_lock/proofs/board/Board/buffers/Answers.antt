use Rattle.std.proofs.Common.{rules}
use Rattle.ww_lock.proofs.board.Board.buffers.Goals as goal

pub returns : goal.returns
returns g c = search rules
