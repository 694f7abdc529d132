use Rattle.std.proofs.Common.{ap, sym, ◌∙◌}
use Rattle.std.proofs.lemmas.Bool.{false≢true}
use Rattle.ww_lock.specs.Seats.{behind_pivot}
use Rattle.ww_lock.proofs.Finding.{apart_same, within_same, emptied_same}
use Rattle.ww_lock.proofs.acquire.Acquire.put_values.Goals as goal

pub returns-clause-holds : goal.returns-clause-holds
returns-clause-holds g c = λ inside z h. let owes = c.args.self.now.seat.place.me.0.lock.owes in let xs = c.args.values.items in record {
  sits = record {
    seated = h.seated;
    keys = c.requires;
    apart = apart_same xs owes (sym c.requires) h.apart;
    within = within_same z.slots xs owes (sym c.requires) h.within;
    hands = h.hands ∙ ap (behind_pivot inside) (emptied_same owes xs c.requires);
    inside = h.inside;
    saw = h.saw;
  };
  own = record { drawn = h.own.drawn; counted = h.own.counted; room = λ u. absurd (false≢true (sym u ∙ h.sealed)) };
}
