use Rattle.ww_lock.specs.Boards.{table_of}
use Rattle.std.proofs.Common.{sym, subst}
use denote.Param.Send.{IsSend, IsSync, sendable}
use contract.Lifetimes.{Lfts}
use denote.Param.{param}
use denote.Builtin.{u64, unit}
use Rattle.std.proofs.alloc.Global.TheSendSync as handle
use Rattle.ww_lock_tests.specs.contracts.counting.Job as Job
use Rattle.ww_lock_tests.specs.contracts.Counters as Counters
use Rattle.ww_lock_tests.specs.contracts.CountersWard.TheImpl.{ghosts as ward}
use Rattle.ww_lock_tests.specs.contracts.counting.count_in_threads.{R-row}
use Rattle.ww_lock_tests.proofs.counting.count_in_threads.Given.{Over}
use Rattle.ww_lock_tests.proofs.counting.count_in_threads.Lts.{arg-1-4}
use Rattle.ww_lock.specs.Seats.{IsIdle}
use Rattle.ww_lock.specs.contracts.board.Board as Board
use Rattle.ww_lock_tests.proofs.counting.count_in_threads.Goals as goal

pub map_vec-requires-send-J : goal.map_vec-requires-send-J
map_vec-requires-send-J g c κs within =
    let s = c.crosses_threads.ensures.seats in
    let h : IsSend Job.the_row = search sendable depth 20 in search sendable depth 20

crossing : (g : Over) → IsSync (R-row g.row.R) → IsSync (Board.the_field Counters.the_row u64 u64 unit ward).row → (κs : Lfts 9) → IsSync (param 4 (arg-1-4 g.row.R g.R.laws g.R.Threads-dict g.R.Wait-dict κs))
crossing g y b κs = let h = handle.the_field_sync in search sendable depth 20

pub map_vec-requires-sync-F : goal.map_vec-requires-sync-F
map_vec-requires-sync-F g c κs within = let b = c.crosses_threads.ensures.board in crossing g c.type_bounds.sync-R (record { shared = λ x o p κ. b.shared x o p κ }) κs

pub map_vec-requires-after_bounds : goal.map_vec-requires-after_bounds
map_vec-requires-after_bounds g c κs within i x l e = subst (λ j. IsIdle (table_of c.args.board.now) j.seat) (sym e) (c.requires i x l)
