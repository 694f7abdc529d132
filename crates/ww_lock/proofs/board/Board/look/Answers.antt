use Rattle.std.proofs.Common.{refl, sym, ap, ◌∙◌, subst, map}
use Rattle.ww_lock.specs.Fences.{NotBack}
use Rattle.ww_lock.specs.Rule.{In}
use Rattle.ww_lock.specs.Steps.{number_of}
use Rattle.ww_lock.proofs.board.Board.look.Goals as goal

pub returns-clause-sits : goal.returns-clause-sits
returns-clause-sits g c = λ inside z st. let e = c.look.ensures in let m = e.seat.2 in record {
  seated = e.seat.0 ∙ st.seated;
  keys = ap (λ m. map number_of m.0.lock.owes) m ∙ st.keys;
  apart = st.apart;
  within = st.within;
  hands = ap (λ m. m.1) m ∙ st.hands;
  inside = ap (λ m. m.0.pivot.inside) m ∙ st.inside;
  saw = (st.saw.0, st.saw.1, ap (λ m. m.0.pivot.seen) m ∙ st.saw.2);
}

pub returns-clause-same : goal.returns-clause-same
returns-clause-same g c = (c.look.ensures.seat.1, refl, ap (λ m. m.0.lock.ticket) c.look.ensures.seat.2)

pub returns-clause-looked : goal.returns-clause-looked
returns-clause-looked g c = let s = c.look.ensures.shown in λ x h. subst (NotBack x) (sym s.2) (s.1.shows c.args.fence x h)

pub returns-clause-owed : goal.returns-clause-owed
returns-clause-owed g c = λ owed b x y i j. owed b x y (subst (λ m. In (b, x) m.0.lock.owes) c.look.ensures.seat.2 i) j
