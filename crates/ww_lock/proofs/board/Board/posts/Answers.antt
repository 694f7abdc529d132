use Rattle.std.proofs.Common.{rules}
use Rattle.ww_lock.proofs.board.Board.posts.Goals as goal

pub returns : goal.returns
returns g c = search rules
