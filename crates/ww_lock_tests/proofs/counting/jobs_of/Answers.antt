use Rattle.ww_lock.specs.Boards.{table_of}
use Rattle.std.proofs.Common.{sym, subst, All}
use Rattle.std.proofs.lemmas.List.Elements.{All-push}
use Rattle.ww_lock.specs.Seats.{IsIdle}
use Rattle.ww_lock_tests.proofs.counting.jobs_of.Goals as goal

pub loop-thread-preserved : goal.loop-thread-preserved
loop-thread-preserved c = let z = table_of c.args.board.now in let e = c.split-kept.ensures in let v = c.loop-thread.invariant in
    (e.left, subst (All (λ j. IsIdle z j.seat)) (sym c.in_ok-push.ensures.items) (All-push (λ j. IsIdle z j.seat) c.loop-thread.jobs.items _ v.1 e.right))
