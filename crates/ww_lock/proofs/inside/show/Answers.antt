use Rattle.std.proofs.Common.{ap, sym, subst, ◌∙◌}
use Rattle.ww_lock.specs.Leaving.{MayPost}
use Rattle.ww_lock.specs.declared.board.View.{View}
use Rattle.ww_lock.proofs.inside.show.Goals as goal

pub post-requires-clause-facts : goal.post-requires-clause-facts
post-requires-clause-facts g c = let w = g.W.Ward in let P = g.row.W-Pivot.Denot in let X = g.row.W-Value.Denot in let T = g.row.W-Task.Denot in
    let F : View P X T × P → Type 0 = λ z. MayPost w.facts z.0 c.args.held.now.items z.1 c.args.fence c.args.word in
    subst F (λ i. (sym (ap (λ m. m.0) c.read_back-old.ensures.seat.2) i, sym c.of-told.ensures i)) c.requires.facts

pub post-requires-clause-found : goal.post-requires-clause-found
post-requires-clause-found g c p e = let same = c.read_back-old.ensures.seat.2 in c.read_back-old.ensures.reads p (ap (λ m. m.0.pivot.seen) (sym same) ∙ e)
