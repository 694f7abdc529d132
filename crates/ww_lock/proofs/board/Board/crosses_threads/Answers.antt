use denote.Param.{param}
use denote.Param.Send.{sendable}
use Rattle.ww_lock.proofs.Crosses.{seat_send, board_sync}
use Rattle.ww_lock.proofs.board.Board.crosses_threads.Goals as goal

pub returns-clause-seats : goal.returns-clause-seats
returns-clause-seats g c = seat_send (param 1 g.row.W-Pivot) (param 2 g.row.W-Value) (param 3 g.row.W-Task) (search sendable) (search sendable)

pub returns-clause-board : goal.returns-clause-board
returns-clause-board g c = board_sync (param 1 g.row.W-Pivot) (param 2 g.row.W-Value) (param 3 g.row.W-Task) (search sendable) (search sendable) (param 0 g.row.W) g.W.Ward
