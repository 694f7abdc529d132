use Rattle.std.proofs.Common.{sym, subst, All}
use Rattle.std.proofs.lemmas.List.Elements.{All-push}
use Rattle.ww_lock.specs.Seats.{IsIdle}
use Rattle.ww_lock.specs.Boards.{table_of}
use Rattle.lock_bench.proofs.shares.shares_of.Goals as goal

pub loop-thread-preserved : goal.loop-thread-preserved
loop-thread-preserved g c = let z = table_of c.args.board.now in let e = c.split-kept.ensures in let v = c.loop-thread.invariant in
    (e.left, subst (All (λ s. IsIdle z s.seat)) (sym c.in_ok-push.ensures.items) (All-push (λ s. IsIdle z s.seat) c.loop-thread.shares.items _ v.1 e.right))
