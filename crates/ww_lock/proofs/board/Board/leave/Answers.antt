use Rattle.std.proofs.Common.{refl, ap, ◌∙◌, [], map}
use Rattle.atomic_table.specs.Table.{rest}
use Rattle.ww_lock.specs.Steps.{number_of}
use Rattle.ww_lock.proofs.Ready.{owes_held}
use Rattle.ww_lock.proofs.board.Board.leave.Goals as goal

pub returns-clause-sits : goal.returns-clause-sits
returns-clause-sits g c = let st = c.requires.sits in let e = c.bring_home.ensures in let m = e.left.2 in record {
  seated = e.seat.0 ∙ st.seated;
  keys = ap (λ m. map number_of m.0.lock.owes) m;
  apart = st.apart;
  within = st.within;
  hands = ap (λ m. m.1) m ∙ ap rest st.hands;
  inside = ap (λ m. m.0.pivot.inside) m;
  saw = (c.args.pivot, [], ap (λ m. m.0.pivot.seen) m);
}

pub returns-clause-same : goal.returns-clause-same
returns-clause-same g c = (c.bring_home.ensures.seat.1, refl, ap (λ m. m.0.lock.ticket) c.bring_home.ensures.left.2)

pub returns-clause-owed : goal.returns-clause-owed
returns-clause-owed g c = owes_held g.W.Ward.facts.fits (record c.args.seat.now { place = c.bring_home.new.place }) c.requires.sits.apart (ap (λ m. m.0.lock.owes) c.bring_home.ensures.left.2)
