use Rattle.std.proofs.Common.{refl, ap, ◌∙◌, [], ◌∷◌, map}
use Rattle.ww_lock.specs.Steps.{number_of}
use Rattle.ww_lock.specs.declared.board.Slot.TheVariants.{Gone}
use Rattle.ww_lock.proofs.board.Board.enter.Goals as goal

pub returns-clause-sits : goal.returns-clause-sits
returns-clause-sits g c = let st = c.requires in let e = c.take_pivot.ensures in let sees = ap (λ m. m.0) e.entered in record {
  seated = e.seat.0 ∙ st.seated;
  keys = ap (λ v. map number_of v.lock.owes) sees ∙ st.keys;
  apart = st.apart;
  within = st.within;
  hands = ap (λ m. m.1) e.entered ∙ ap (λ l. (0, Gone) ∷ l) st.hands;
  inside = ap (λ v. v.pivot.inside) sees;
  saw = (c.take_pivot.result, [], ap (λ v. v.pivot.seen) sees);
}

pub returns-clause-same : goal.returns-clause-same
returns-clause-same g c = (c.take_pivot.ensures.seat.1, refl, ap (λ m. m.0.lock.ticket) c.take_pivot.ensures.entered)
