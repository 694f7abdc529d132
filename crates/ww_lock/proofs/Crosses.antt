-- A seat may be sent and a board shared where the pivot and the values may be sent.
use denote.RattleType.{RattleType}
use denote.Param.Send.{IsSend, IsSync, sendable}
use Rattle.atomic_table.proofs.shared.Seat.TheSendSync as place
use Rattle.ww_lock.specs.contracts.board.Board as Board
use Rattle.atomic_table.proofs.owned.Table.TheSendSync as tables
use Rattle.ww_lock.specs.contracts.board.Announcement as Announcement
use Rattle.ww_lock.specs.contracts.board.Slot as Slot
use Rattle.ww_lock.specs.contracts.board.View as View
use Rattle.ww_lock.specs.contracts.sleepers.Sleepers as Sleepers
use Rattle.ww_lock.specs.contracts.wait_queue.WaitQueue as WaitQueue
use Rattle.ww_lock.specs.contracts.seat.Seat as Seat
use Rattle.ww_lock.specs.declared.ward.Ward.{Ghosts}
use Rattle.atomic_table.specs.contracts.owned.Table as Table
use Rattle.std.specs.contracts.alloc.Global as Global
use Rattle.std.specs.contracts.impls.GlobalAllocator.TheImpl.{ghosts}
use Rattle.ww_lock.specs.contracts.board.Rule as Rule
use Rattle.ww_lock.specs.contracts.board.Start as Start
use Rattle.std.proofs.Crossing as heap
use Rattle.std.proofs.Crossing.{crosses}
use Rattle.std.proofs.alloc.Global.TheSendSync as handle
use Rattle.std.proofs.sync.atomic.AtomicU64.TheSendSync as atomic
use Rattle.ww_lock.specs.contracts.board.RuleTableRuleSlotPivotValueTaskViewPivotValueTaskStartPivot.TheImpl as rule
use Rattle.ww_lock.specs.contracts.board.RuleTableRuleSlotPivotValueTaskViewPivotValueTaskStartPivot.TheImpl.{no_dict}

module _ (P X T : RattleType) where
  announcement_send : IsSend (Announcement.the_field P X T).row
  announcement_send = search sendable depth 20

  slot_send : IsSend P → IsSend X → IsSend (Slot.the_row P X T)
  slot_send p x = let a = announcement_send in search sendable depth 20

  pub seat_send : IsSend P → IsSend X → IsSend (Seat.the_field P X T).row
  seat_send p x = let l = place.the_send (Slot.the_row P X T) (View.the_row P X T) (slot_send p x) in search (sendable, crosses) depth 20

  table_sync : IsSend P → IsSend X → (W : RattleType) (g : Ghosts W.Denot P.Denot X.Denot T.Denot) → IsSync (Table.the_field (Slot.the_row P X T) (View.the_row P X T) (Start.the_row P) (Rule.the_row W) Global.the_row (rule.ghosts W P X T g no_dict no_dict no_dict no_dict) ghosts).row
  table_sync p x W g = tables.the_field_sync (Slot.the_row P X T) (View.the_row P X T) (Start.the_row P) (Rule.the_row W) Global.the_row (rule.ghosts W P X T g no_dict no_dict no_dict no_dict) ghosts (slot_send p x) handle.the_send handle.the_sync heap.frees

  sleepers_sync : IsSync Sleepers.the_row
  sleepers_sync = let a = atomic.the_sync in search sendable depth 20

  waiters_sync : IsSync WaitQueue.the_row
  waiters_sync = let a = atomic.the_sync in search sendable depth 20

  pub board_sync : IsSend P → IsSend X → (W : RattleType) (g : Ghosts W.Denot P.Denot X.Denot T.Denot) → IsSync (Board.the_field W P X T g).row
  board_sync p x W g = let t = table_sync p x W g in let h = handle.the_field_sync in let a = atomic.the_sync in let s = sleepers_sync in let q = waiters_sync in search sendable depth 30
