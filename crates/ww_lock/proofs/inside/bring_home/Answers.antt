use Rattle.std.proofs.Common.{rules, ap, sym, subst}
use Rattle.ww_lock.specs.declared.board.View.{View}
use Rattle.ww_lock.specs.Leaving.{MayLeave}
use Rattle.ww_lock.proofs.inside.bring_home.Goals as goal

pub leave-requires-clause-facts : goal.leave-requires-clause-facts
leave-requires-clause-facts g c = let w = g.W.Ward in let P = g.row.W-Pivot.Denot in let X = g.row.W-Value.Denot in let T = g.row.W-Task.Denot in
    let F : View P X T × P → Type 0 = λ z. MayLeave w.facts z.0 c.args.held.now.items z.1 c.args.change.now in
    subst F (λ i. (sym (ap (λ m. m.0) c.exchange.ensures.3) i, sym c.of-told.ensures i)) c.requires.facts

pub leave-requires-clause-seat : goal.leave-requires-clause-seat
leave-requires-clause-seat g c = search rules
