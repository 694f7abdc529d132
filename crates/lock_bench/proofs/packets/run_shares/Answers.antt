use Rattle.std.proofs.Common.{sym, subst}
use denote.Param.Send.{IsSend, IsSync, sendable}
use contract.Lifetimes.{Lfts}
use denote.Param.{param}
use denote.Builtin.{u32, u64, bool}
use Rattle.std.specs.contracts.alloc.Global as Global
use Rattle.std.specs.contracts.vec.Vec as Vec
use Rattle.std.specs.contracts.impls.GlobalAllocator.TheImpl.{ghosts}
use Rattle.std.proofs.Crossing as heap
use Rattle.lock_bench.specs.contracts.shares.Share as Share
use Rattle.lock_bench.specs.contracts.packets.Engines as Engines
use Rattle.lock_bench.specs.contracts.packets.Packets as Packets
use Rattle.lock_bench.specs.contracts.packets.PacketsWard.TheImpl.{ghosts as ward}
use Rattle.lock_bench.specs.contracts.packets.run_shares.{R-row}
use Rattle.lock_bench.proofs.packets.run_shares.Given.{Over}
use Rattle.lock_bench.proofs.packets.run_shares.Lts.{arg-1-4}
use Rattle.ww_lock.specs.Seats.{IsIdle}
use Rattle.ww_lock.specs.Boards.{table_of}
use Rattle.ww_lock.specs.contracts.board.Board as Board
use Rattle.lock_bench.proofs.packets.run_shares.Goals as goal

flags_send : IsSend (Vec.the_row bool Global.the_row ghosts)
flags_send = heap.Vec-send bool (search sendable depth 20)

engines_send : IsSend Engines.the_row
engines_send = let f = flags_send in search sendable depth 20

pub map_vec-requires-send-J : goal.map_vec-requires-send-J
map_vec-requires-send-J g c κs within =
    let s = c.crosses_threads.ensures.seats in
    let e = engines_send in
    let h : IsSend (Share.the_row Engines.the_row u64 u32) = search sendable depth 20 in search sendable depth 20

crossing : (g : Over) → IsSync (R-row g.row.R) → IsSync (Board.the_field Packets.the_row Engines.the_row u64 u32 ward).row → (κs : Lfts 9) → IsSync (param 4 (arg-1-4 g.row.R g.R.laws g.R.Threads-dict g.R.Wait-dict κs))
crossing g y b κs = search sendable depth 20

pub map_vec-requires-sync-F : goal.map_vec-requires-sync-F
map_vec-requires-sync-F g c κs within = let b = c.crosses_threads.ensures.board in crossing g c.type_bounds.sync-R (record { shared = λ x o p κ. b.shared x o p κ }) κs

pub map_vec-requires-after_bounds : goal.map_vec-requires-after_bounds
map_vec-requires-after_bounds g c κs within i x l e = subst (λ s. IsIdle (table_of c.args.board.now) s.seat) (sym e) (c.requires i x l)
