use Rattle.std.proofs.Common.{rules, refl, ap, ◌∙◌, [], map}
use Rattle.ww_lock.specs.Steps.{number_of}
use Rattle.ww_lock.proofs.board.Board.post.Goals as goal

pub show-requires-clause-table : goal.show-requires-clause-table
show-requires-clause-table g c = search rules

pub returns-clause-sits : goal.returns-clause-sits
returns-clause-sits g c = let st = c.requires.sits.0 in let e = c.show.ensures in let m = e.posted.2 in record {
  seated = e.seat.0 ∙ st.seated;
  keys = ap (λ m. map number_of m.0.lock.owes) m;
  apart = st.apart;
  within = st.within;
  hands = ap (λ m. m.1) m ∙ st.hands;
  inside = ap (λ m. m.0.pivot.inside) m;
  saw = (c.args.pivot.now, [], ap (λ m. m.0.pivot.seen) m);
}

pub returns-clause-same : goal.returns-clause-same
returns-clause-same g c = (c.show.ensures.seat.1, refl, ap (λ m. m.0.lock.ticket) c.show.ensures.posted.2)
