use Rattle.std.proofs.Common.{rules, arith, refl, sym, subst, ap, ◌∙◌, ◌≡◌, ◌+◌, ◌-◌, ◌∷◌, length, take, drop, map, length-drop}
use mathlib.Core.Option.{some-injective}
use Rattle.atomic_table.specs.Table.{rest}
use Rattle.atomic_table.proofs.Lists.{at_index}
use Rattle.ww_lock.specs.declared.board.Slot.TheVariants.{Gone}
use Rattle.ww_lock.specs.Held.{IsApart, emptied, turned_by}
use Rattle.ww_lock.specs.Rule.{In}
use Rattle.ww_lock.specs.Steps.{with_release, without, number_of}
use Rattle.ww_lock.proofs.Finding.{below}
use Rattle.ww_lock.proofs.Lists.{at_in, key_in, in_without}
use Rattle.ww_lock.proofs.Trying.{without_apart}
use Rattle.ww_lock.proofs.Ready.{released}
use Rattle.ww_lock.proofs.Releasing.{removed, without_keys, brought, turned_back}
use Rattle.ww_lock.proofs.board.Board.release.Goals as goal

pub unreachable-requires : goal.unreachable-requires
unreachable-requires g c = let h = c.requires.held in c.in_default.ensures.found h.1.0 (at_in c.args.acquire.now.seat.held.items h.0 (c.args.buffer, h.1.0) h.1.1)

pub remove-value-requires : goal.remove-value-requires
remove-value-requires g c = let at = c.in-Some.ensures.found in let l = below c.args.acquire.now.seat.held.items c.in-Some.i (c.args.buffer, at.0) at.1 in first_of (search rules, omega arith)

pub release-requires-clause-table : goal.release-requires-clause-table
release-requires-clause-table g c = let st = c.requires.holds.sits in let sized = c.args.self.now.sized in let s₀ = sized.0 in let s₂ = sized.2 in let at = c.in-Some.ensures.found in
    (c.bring.ensures.0 ∙ st.seated, omega arith, st.within c.args.buffer at.0 (at_in c.args.acquire.now.seat.held.items c.in-Some.i (c.args.buffer, at.0) at.1))

pub release-requires-clause-seat : goal.release-requires-clause-seat
release-requires-clause-seat g c = let st = c.requires.holds.sits in let at = c.in-Some.ensures.found in
    let e = ap (λ m. m.1) c.bring.ensures.2 ∙ (ap (turned_by c.in-Some.i) st.hands ∙ brought c.args.buffer at.0 c.args.acquire.now.seat.held.items c.in-Some.i at.1) in
    e ∙ ap (λ l. (c.args.buffer + 1, Gone) ∷ rest l) (sym e)

pub release-requires-clause-fits : goal.release-requires-clause-fits
release-requires-clause-fits g c = let st = c.requires.holds.sits in let a = c.args.acquire.now in let b = c.args.buffer in let w = g.W.Ward in let at = c.in-Some.ensures.found in let here = at_in a.seat.held.items c.in-Some.i (b, at.0) at.1 in
    let l = below a.seat.held.items c.in-Some.i (b, at.0) at.1 in let k = key_in a.seat.held.items a.seat.place.me.0.lock.owes (sym st.keys) b at.0 here in
    let same : at.0 ≡ c.remove-value.result.1 = ap (λ z. z.1) (some-injective (b, at.0) c.remove-value.result (sym at.1 ∙ at_index a.seat.held.items c.in-Some.i c.remove-value.result l c.remove-value.ensures.value)) in
    (k.0, subst (λ m. In (b, k.0) m.0.lock.owes) (sym c.bring.ensures.2) k.1, λ p f. subst (w.facts.fits b p) same (c.requires.fits k.0 at.0 k.1 here p f))

pub wake_all-requires : goal.wake_all-requires
wake_all-requires g c = let st = c.requires.holds.sits in let sized = c.args.self.now.sized in let s₀ = sized.0 in let s₂ = sized.2 in let at = c.in-Some.ensures.found in
    let l = st.within c.args.buffer at.0 (at_in c.args.acquire.now.seat.held.items c.in-Some.i (c.args.buffer, at.0) at.1) in let n = c.number.ensures in omega arith

pub returns-clause-held : goal.returns-clause-held
returns-clause-held g c = let at = c.in-Some.ensures.found in c.remove-value.ensures.by_index.2 ∙ removed c.args.buffer at.0 c.args.acquire.now.seat.held.items c.in-Some.i c.requires.holds.sits.apart at.1

pub returns-clause-holds : goal.returns-clause-holds
returns-clause-holds g c = let st = c.requires.holds.sits in let a = c.args.acquire.now in let xs = a.seat.held.items in let b = c.args.buffer in let i = c.in-Some.i in let at = c.in-Some.ensures.found in
    let by = c.remove-value.ensures.by_index.2 in let is : c.remove-value.new.self.items ≡ without b xs = by ∙ removed b at.0 xs i st.apart at.1 in
    let first = c.bring.ensures in let gave = c.release.ensures in let last = c.bring-2.ensures in
    let sees = ap (λ m. m.0) last.2 ∙ (ap (λ m. m.0) gave.released ∙ ap (λ m. with_release b m.0) first.2) in
    let slots = ap (λ m. rest m.1) first.2 ∙ (ap (λ l. rest (turned_by i l)) st.hands ∙ ap rest (brought b at.0 xs i at.1)) in
    let later : c.len.result - i ≡ length (drop (i + 1) xs) = (let n = c.len.ensures in let m = c.remove-value.ensures.len in let d = length-drop (i + 1) xs in let l = below xs i (b, at.0) at.1 in let k = a.seat.held.ok.0 in omega arith) in record {
      sits = record {
        seated = last.0 ∙ (gave.seat.0 ∙ (first.0 ∙ st.seated));
        keys = ap (λ v. map number_of v.lock.owes) sees ∙ (without_keys b a.seat.place.me.0.lock.owes xs st.keys ∙ ap (map number_of) (sym is));
        apart = subst (IsApart {A = g.row.W-Value.Denot}) (sym is) (without_apart b xs st.apart);
        within = λ d y h. st.within d y (in_without b (d, y) xs (subst (In (d, y)) is h)).0;
        hands = ap (λ m. m.1) last.2 ∙ (ap (λ m. turned_by (c.len.result - i) m.1) gave.released ∙ (ap (turned_by (c.len.result - i)) slots ∙ (turned_back (take i xs) (drop (i + 1) xs) (c.len.result - i) later ∙ ap emptied (sym by))));
        inside = ap (λ v. v.pivot.inside) sees ∙ st.inside;
        saw = (st.saw.0, st.saw.1, ap (λ v. v.pivot.seen) sees ∙ st.saw.2);
      };
      own = let own = c.requires.holds.own in record {
        drawn = ap (λ v. v.lock.ticket) sees ∙ own.drawn;
        counted = own.counted;
        room = λ u. let q = own.room u in let k = c.remove-value.ensures.capacity in omega arith;
      };
    }

pub returns-clause-ready : goal.returns-clause-ready
returns-clause-ready g c = λ ready. let b = c.args.buffer in
    let sees = ap (λ m. m.0) c.bring-2.ensures.2 ∙ (ap (λ m. m.0) c.release.ensures.released ∙ ap (λ m. with_release b m.0) c.bring.ensures.2) in
    released g.W.Ward.facts.fits c.args.self.now.table.shared.table_id b c.args.acquire.now _ ready (returns-clause-holds g c) (refl, refl, c.bring-2.ensures.1 ∙ (c.release.ensures.seat.1 ∙ c.bring.ensures.1)) sees (returns-clause-held g c)
