use contract.Lifetimes.{Lfts}
use denote.RattleType.{RattleType}
use denote.Param.{param}
use denote.Param.Send.{IsSend, IsSync, sendable}
use denote.Builtin.{unit}
use Rattle.std.proofs.alloc.Global.TheSendSync as handle
use Rattle.std.specs.contracts.alloc.Global as Global
use Rattle.std.specs.contracts.vec.Vec as Vec
use Rattle.std.specs.contracts.impls.GlobalAllocator.TheImpl.{ghosts}
use Rattle.drm_types.specs.contracts.ids.BufferId as BufferId
use Rattle.ww_lock_tests.specs.contracts.appending.Appended as Appended
use Rattle.ww_lock_tests.specs.contracts.appending.Appending as Appending
use Rattle.ww_lock_tests.specs.contracts.appending.AppendingWard.TheImpl.{ghosts as ward}
use Rattle.ww_lock_tests.proofs.appending.append_in_threads.Given.{Over}
use Rattle.ww_lock_tests.proofs.appending.append_in_threads.Lts.{arg-2-1}
use Rattle.ww_lock_tests.specs.contracts.appending.append_in_threads.{R-row}
use Rattle.ww_lock.specs.contracts.board.Board as Board
use Rattle.ww_lock.specs.contracts.seat.Seat as Seat
use Rattle.ww_lock_tests.proofs.appending.append_in_threads.Goals as goal

abbrev Numbers : RattleType
Numbers = Vec.the_row BufferId.the_row Global.the_row ghosts

crossing : (g : Over) → IsSync (R-row g.row.R) → IsSend (Seat.the_field Numbers Appended.the_row unit).row → IsSync (Board.the_field Appending.the_row Numbers Appended.the_row unit ward).row → (κs : Lfts 10) → IsSend (param 1 (arg-2-1 g.row.R g.R.laws g.R.Threads-dict g.R.Wait-dict κs))
crossing g y s b κs = let h = handle.the_field_send in search sendable depth 20

pub join-one-requires-send-F : goal.join-one-requires-send-F
join-one-requires-send-F g c κs within = let s = c.crosses_threads.ensures.seats in let b = c.crosses_threads.ensures.board in
    crossing g c.type_bounds.sync-R (record { owned = s.owned; leaving = s.leaving }) (record { shared = λ x o p κ. b.shared x o p κ }) κs

pub join-one-requires-send-A : goal.join-one-requires-send-A
join-one-requires-send-A g c κs within = let s = c.crosses_threads.ensures.seats in search sendable depth 20

pub join-one-requires-after_bounds : goal.join-one-requires-after_bounds
join-one-requires-after_bounds g c κs within = let n = c.requires.1 in let e = c.split-one.ensures in ((e.left, n), (e.right, n))
