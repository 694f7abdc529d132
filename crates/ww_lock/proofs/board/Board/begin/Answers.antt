use Rattle.std.proofs.Common.{ap, ◌∙◌, subst}
use Rattle.ww_lock.specs.Boards.{table_of}
use Rattle.ww_lock.specs.Steps.{IsNext}
use Rattle.ww_lock.proofs.Ready.{none_owed}
use Rattle.ww_lock.proofs.board.Board.begin.Goals as goal

pub draw-requires-clause-none : goal.draw-requires-clause-none
draw-requires-clause-none g c = ap (λ m. m.0.lock.owes) c.loop.invariant.2 ∙ none_owed (table_of c.args.self.now) c.args.seat c.requires

pub returns-then-draw-next-clause-next : goal.returns-then-draw-next-clause-next
returns-then-draw-next-clause-next g c = let hit = c.if-draw-next.true in
    subst (λ m. IsNext m.0 c.peek-next.result) c.loop.invariant.2 (subst (IsNext c.loop.place.me.0) hit (c.draw.ensures.drawn.0 hit).1)
