use Rattle.std.proofs.Common.{sym, subst}
use Rattle.ww_lock.specs.Seats.{IsIdle}
use Rattle.ww_lock.specs.Boards.{table_of}
use Rattle.lock_bench.proofs.packets.rounds_of.Goals.{then-begin_packet, else-begin_packet}
use Rattle.lock_bench.proofs.packets.rounds_of.Goals as goal

pub loop-preserved : goal.loop-preserved
loop-preserved g c = let z = table_of c.args.board.now in elim c.if-begin_packet.branch [
  | then-begin_packet w ↦ subst (IsIdle z) (sym w.seat-is) w.report_packet.ensures
  | else-begin_packet w ↦ subst (IsIdle z) (sym w.seat-is) (c.begin_packet.ensures.none w.if-begin_packet.false)
]
