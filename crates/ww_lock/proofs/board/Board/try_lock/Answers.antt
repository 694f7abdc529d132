use Rattle.std.proofs.Common.{Ok, Err, false, rules, arith, refl, sym, ap, subst, ◌∙◌, ◌≡◌, ◌+◌, ℕ, List, [], ◌∷◌, ◌++◌, ⊎_elim, length-append}
use Rattle.atomic_table.specs.Table.{rest}
use Rattle.ww_lock.specs.Rule.{In}
use Rattle.ww_lock.specs.Steps.{with_claim}
use Rattle.ww_lock.specs.Held.{IsSameKeys, IsApart, emptied}
use Rattle.ww_lock.specs.declared.board.Slot.TheVariants.{Value, Gone}
use Rattle.ww_lock.specs.Acquiring.{view}
use Rattle.ww_lock.proofs.Lists.{in_last}
use Rattle.ww_lock.specs.declared.locks.TryLockError.TheVariants.{Older, Younger}
use Rattle.ww_lock.proofs.Ready.{sits_on, tried}
use Rattle.ww_lock.proofs.Trying.{lacks_same, apart_fits, apart_last, emptied_last, keys_last, first_value}
use Rattle.ww_lock.proofs.board.Board.try_lock.Goals as goal

pub claim-found-requires-clause-free : goal.claim-found-requires-clause-free
claim-found-requires-clause-free g c = lacks_same c.args.buffer _ _ c.requires.0.sits.keys c.in_default.ensures.found

pub pull-value-requires-clause-slot : goal.pull-value-requires-clause-slot
pull-value-requires-clause-slot g c = let e = (c.claim-found.ensures.claimed c.args.buffer refl).0 c.if-found-eq0.true in
    (e.0, ap (λ m. m.1) e.1 ∙ ap (λ l. (c.args.buffer + 1, Value e.0) ∷ l) (sym (ap (λ m. rest m.1) e.1)))

pub push_reserved-requires : goal.push_reserved-requires
push_reserved-requires g c = let a = c.args.acquire.now in let st = c.requires.0.sits in let b = c.args.buffer in let x = c.pull-value.result in let sized = c.args.self.now.sized in let s₁ = sized.1 in let room = c.requires.0.own.room c.if-sealed.false in let low = c.requires.1 in
    let n = apart_fits c.args.self.now.buffers (a.seat.held.items ++ (b, x) ∷ []) (apart_last b x a.seat.held.items st.apart c.in_default.ensures.found)
    (λ d y h. ⊎_elim (λ t. let w = st.within d y t in omega arith) (λ t. let e : d ≡ b = ap (λ z. z.0) t in omega arith) (in_last (d, y) (b, x) a.seat.held.items h)) in
    first_of (search rules, omega (arith, length-append a.seat.held.items ((b, x) ∷ [])))

pub returns-then-found-eq0-clause-holds : goal.returns-then-found-eq0-clause-holds
returns-then-found-eq0-clause-holds g c = let a = c.args.acquire.now in let st = c.requires.0.sits in let own = c.requires.0.own in let b = c.args.buffer in let x = c.pull-value.result in let sized = c.args.self.now.sized in let s₁ = sized.1 in
    let e = (c.claim-found.ensures.claimed b refl).0 c.if-found-eq0.true in let p = c.pull-value.ensures in let r = c.push_reserved.ensures in let low = c.requires.1 in
    let sees = ap (λ m. m.0) p.seat.2 ∙ ap (λ m. m.0) e.1 in record {
      sits = record {
        seated = p.seat.0 ∙ (c.claim-found.ensures.seat.0 ∙ st.seated);
        keys = subst (λ (z : _ × List (ℕ × g.row.W-Value.Denot)). IsSameKeys z.0.lock.owes z.1) (λ i. (sym sees i, sym r.items i)) (keys_last b e.0 x a.seat.place.me.0.lock.owes a.seat.held.items st.keys);
        apart = subst (IsApart {A = g.row.W-Value.Denot}) (sym r.items) (apart_last b x a.seat.held.items st.apart c.in_default.ensures.found);
        within = λ d y h. ⊎_elim (λ t. st.within d y t) (λ t. let i : d ≡ b = ap (λ z. z.0) t in omega arith) (in_last (d, y) (b, x) a.seat.held.items (subst (In (d, y)) r.items h));
        hands = ap (λ m. m.1) p.seat.2 ∙ (ap (λ l. l ++ (b + 1, Gone) ∷ []) (ap (λ m. rest m.1) e.1 ∙ st.hands) ∙ (sym (emptied_last b x a.seat.held.items) ∙ ap emptied (sym r.items)));
        inside = ap (λ v. v.pivot.inside) sees ∙ st.inside;
        saw = (st.saw.0, st.saw.1, ap (λ v. v.pivot.seen) sees ∙ st.saw.2);
      };
      own = record {
        drawn = ap (λ v. v.lock.ticket) sees ∙ own.drawn;
        counted = own.counted;
        room = λ u. let q = own.room u in let k = r.capacity in omega arith;
      };
    }

pub returns-then-found-eq0-clause-answers : goal.returns-then-found-eq0-clause-answers
returns-then-found-eq0-clause-answers g c = let b = c.args.buffer in let x = c.pull-value.result in let e = (c.claim-found.ensures.claimed b refl).0 c.if-found-eq0.true in let p = c.pull-value.ensures in
    let same : e.0 ≡ x = ap (first_value x) (sym (ap (λ m. m.1) e.1) ∙ p.value) in
    (c.if-sealed.false, c.in_default.ensures.found, (refl, refl, p.seat.1 ∙ c.claim-found.ensures.seat.1), (x, ap (λ m. m.0) p.seat.2 ∙ (ap (λ m. m.0) e.1 ∙ ap (λ z. with_claim b z (view c.args.acquire.now)) same), c.push_reserved.ensures.items))

-- a try that fails leaves the caller what it was, but for the holder that it met
pub returns-then-found-ticket-clause-holds : goal.returns-then-found-ticket-clause-holds
returns-then-found-ticket-clause-holds g c = let h = c.requires.0 in let e = ((c.claim-found.ensures.claimed c.args.buffer refl).1 c.if-found-eq0.false).1 in record {
  sits = sits_on false _ c.args.acquire.now.seat _ h.sits c.claim-found.ensures.seat.0 (ap (λ m. m.1) e) (ap (λ m. m.0.lock.owes) e) (ap (λ m. m.0.pivot) e) refl;
  own = record { drawn = ap (λ m. m.0.lock.ticket) e ∙ h.own.drawn; counted = h.own.counted; room = h.own.room };
}

pub returns-then-found-ticket-clause-answers : goal.returns-then-found-ticket-clause-answers
returns-then-found-ticket-clause-answers g c = let f = (c.claim-found.ensures.claimed c.args.buffer refl).1 c.if-found-eq0.false in
    (c.if-sealed.false, c.in_default.ensures.found, (refl, refl, c.claim-found.ensures.seat.1), c.if-found-ticket.true, ap (λ m. m.0) f.1, refl)

pub returns-else-found-ticket-clause-holds : goal.returns-else-found-ticket-clause-holds
returns-else-found-ticket-clause-holds g c = let h = c.requires.0 in let e = ((c.claim-found.ensures.claimed c.args.buffer refl).1 c.if-found-eq0.false).1 in record {
  sits = sits_on false _ c.args.acquire.now.seat _ h.sits c.claim-found.ensures.seat.0 (ap (λ m. m.1) e) (ap (λ m. m.0.lock.owes) e) (ap (λ m. m.0.pivot) e) refl;
  own = record { drawn = ap (λ m. m.0.lock.ticket) e ∙ h.own.drawn; counted = h.own.counted; room = h.own.room };
}

pub returns-else-found-ticket-clause-answers : goal.returns-else-found-ticket-clause-answers
returns-else-found-ticket-clause-answers g c = let f = (c.claim-found.ensures.claimed c.args.buffer refl).1 c.if-found-eq0.false in let t = c.requires.0.own.drawn in let ne = f.0 in let up = c.if-found-ticket.false in
    (c.if-sealed.false, c.in_default.ensures.found, (refl, refl, c.claim-found.ensures.seat.1), omega arith, ap (λ m. m.0) f.1, refl)

pub returns-then-found-eq0-clause-ready : goal.returns-then-found-eq0-clause-ready
returns-then-found-eq0-clause-ready g c = λ ready. tried g.W.Ward.facts.fits c.args.self.now.table.shared.table_id c.args.buffer c.args.acquire.now _ (Ok tt) ready (returns-then-found-eq0-clause-holds g c) (returns-then-found-eq0-clause-answers g c)

pub returns-then-found-ticket-clause-ready : goal.returns-then-found-ticket-clause-ready
returns-then-found-ticket-clause-ready g c = λ ready. tried g.W.Ward.facts.fits c.args.self.now.table.shared.table_id c.args.buffer c.args.acquire.now _ (Err (Older c.claim-found.result)) ready (returns-then-found-ticket-clause-holds g c) (returns-then-found-ticket-clause-answers g c)

pub returns-else-found-ticket-clause-ready : goal.returns-else-found-ticket-clause-ready
returns-else-found-ticket-clause-ready g c = λ ready. tried g.W.Ward.facts.fits c.args.self.now.table.shared.table_id c.args.buffer c.args.acquire.now _ (Err (Younger c.claim-found.result)) ready (returns-else-found-ticket-clause-holds g c) (returns-else-found-ticket-clause-answers g c)
