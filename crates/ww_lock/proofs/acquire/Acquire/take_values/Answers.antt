use Rattle.std.proofs.Common.{ap, sym, ◌∙◌, map}
use Rattle.ww_lock.specs.Seats.{behind_pivot}
use Rattle.ww_lock.specs.Steps.{number_of}
use Rattle.std.proofs.lemmas.Bool.{false≢true}
use Rattle.ww_lock.proofs.Finding.{apart_same, within_same, emptied_same}
use Rattle.ww_lock.proofs.acquire.Acquire.take_values.Goals as goal

pub returns-clause-lent : goal.returns-clause-lent
returns-clause-lent g c = λ inside z h. let a = c.args.self.now in let st = h.sits in let owes = a.seat.place.me.0.lock.owes in let xs = a.seat.held.items in (
  record {
    seated = st.seated;
    own = record { drawn = h.own.drawn; counted = h.own.counted; room = λ u. absurd (false≢true (sym u ∙ c.requires)) };
    sealed = c.requires;
    apart = apart_same owes xs st.keys st.apart;
    within = within_same z.slots owes xs st.keys st.within;
    hands = st.hands ∙ ap (behind_pivot inside) (emptied_same xs owes (sym st.keys));
    inside = st.inside;
    saw = st.saw;
  },
  st.keys ∙ ap (λ v. map number_of v.items) (sym c.replace.ensures.value),
)
