use Rattle.std.proofs.Common.{sym, subst}
use denote.Param.Send.{IsSend, IsSync, sendable}
use contract.Lifetimes.{Lfts}
use denote.Param.{param}
use denote.Builtin.{u64, unit}
use Rattle.std.proofs.alloc.Global.TheSendSync as handle
use Rattle.lock_bench.specs.contracts.shares.Share as Share
use Rattle.lock_bench.specs.contracts.rounds.Counters as Counters
use Rattle.lock_bench.specs.contracts.threads.Kind as Kind
use Rattle.lock_bench.specs.contracts.rounds.CountersWard.TheImpl.{ghosts as ward}
use Rattle.lock_bench.specs.contracts.threads.run_shares.{R-row}
use Rattle.lock_bench.proofs.threads.run_shares.Given.{Over}
use Rattle.lock_bench.proofs.threads.run_shares.Lts.{arg-1-4}
use Rattle.ww_lock.specs.Seats.{IsIdle}
use Rattle.ww_lock.specs.Boards.{table_of}
use Rattle.ww_lock.specs.contracts.board.Board as Board
use Rattle.lock_bench.proofs.threads.run_shares.Goals as goal

pub map_vec-requires-send-J : goal.map_vec-requires-send-J
map_vec-requires-send-J g c κs within =
    let s = c.crosses_threads.ensures.seats in
    let h : IsSend (Share.the_row u64 u64 unit) = search sendable depth 20 in search sendable depth 20

kind_sync : IsSync Kind.the_row
kind_sync = search sendable depth 20

crossing : (g : Over) → IsSync (R-row g.row.R) → IsSync (Board.the_field Counters.the_row u64 u64 unit ward).row → (κs : Lfts 9) → IsSync (param 4 (arg-1-4 g.row.R g.R.laws g.R.Threads-dict g.R.Wait-dict g.R.Clock-dict κs))
crossing g y b κs = let h = handle.the_field_sync in let k = kind_sync in search sendable depth 20

pub map_vec-requires-sync-F : goal.map_vec-requires-sync-F
map_vec-requires-sync-F g c κs within = let b = c.crosses_threads.ensures.board in crossing g c.type_bounds.sync-R (record { shared = λ x o p κ. b.shared x o p κ }) κs

pub map_vec-requires-after_bounds : goal.map_vec-requires-after_bounds
map_vec-requires-after_bounds g c κs within i x l e = (subst (λ s. IsIdle (table_of c.args.board.now) s.seat) (sym e) (c.requires.seats i x l), c.requires.locks)
