use Rattle.std.proofs.Common.{arith, ap, length, ◌≡◌}
use Rattle.ww_lock.proofs.Finding.{below}
use Rattle.ww_lock.proofs.board.Board.lock_slow.Goals as goal

pub unreachable-requires : goal.unreachable-requires
unreachable-requires g c = let t = rw c.in-Err-Already.field-0-is at c.in-Err-Already.ensures.answers in let l = below c.args.acquire.now.seat.held.items t.1.0 (c.args.buffer, t.1.1.0) t.1.1.1 in
    let none : length c.args.acquire.now.seat.held.items ≡ 0 = ap length c.requires.2 in omega arith

pub unreachable-requires-in-Err-Backoff : goal.unreachable-requires-in-Err-Backoff
unreachable-requires-in-Err-Backoff g c = let t = rw c.in-Err-Backoff.field-0-is at c.in-Err-Backoff.ensures.answers in let l = t.3 in
    let none : length c.args.acquire.now.seat.held.items ≡ 0 = ap length c.requires.2 in omega arith
