use Rattle.std.proofs.Common.{refl, sym, subst, ap, ◌∙◌, true, ◌≤◌, ◌+◌, vec_capacity}
use Rattle.ww_lock.specs.Acquiring.{HasTicket}
use Rattle.ww_lock.specs.Held.{Lacks}
use Rattle.ww_lock.specs.Rule.{In}
use Rattle.ww_lock_tests.proofs.Held.{key_in, lacks_same}
use Rattle.ww_lock_tests.proofs.appending.append_round.Goals as goal

pub returns-in-Err-Memory : goal.returns-in-Err-Memory
returns-in-Err-Memory g c = rw c.in-Err-Memory.field-0-is at (c.in-Err-Memory.ensures.idle c.requires.seat.1)

pub returns-in-Err-TicketsOut : goal.returns-in-Err-TicketsOut
returns-in-Err-TicketsOut g c = rw c.in-Err-TicketsOut.field-0-is at (c.in-Err-TicketsOut.ensures.idle c.requires.seat.1)

pub append_held-requires : goal.append_held-requires
append_held-requires g c = let a = c.lock_all.new.acquire in let h = c.enter-pivot.ensures.same.1 in let r = c.lock_all.ensures in
    record {
      counts = (
        c.enter-pivot.ensures.sits.apart,
        λ b x t. let now = subst (λ l. In (b, x) l.items) h t in let k = key_in a.seat.held.items a.seat.place.me.0.lock.owes (sym r.holds.sits.keys) b x now in r.owed b k.0 x k.1 now c.enter-pivot.result (c.enter-pivot.ensures.fits b k.0 k.1),
      );
    }

-- the ticket of the caller is that of its seat, before and behind the entry
pub leave-requires-clause-sits : goal.leave-requires-clause-sits
leave-requires-clause-sits g c = let r = c.lock_all.ensures in let f = c.enter-pivot.ensures in
    let own : HasTicket _ (record c.lock_all.new.acquire { seat = c.enter-pivot.new.seat }) = record {
      drawn = f.same.2 ∙ r.holds.own.drawn;
      counted = r.holds.own.counted;
      room = λ unsealed. subst (λ (l : _). c.args.board.now.table.shared.table_id.slots ≤ vec_capacity l + 1) (sym f.same.1) (r.holds.own.room unsealed);
    } in
    (c.append_held.ensures.holds true _ (record { sits = f.sits; own = own })).sits

pub leave-requires-clause-facts : goal.leave-requires-clause-facts
leave-requires-clause-facts g c = let e = c.append_held.ensures in let p = c.enter-pivot.result in let s = c.enter-pivot.new.seat in (
  p,
  ap (λ v. v.pivot.seen) e.same.1 ∙ ap (λ v. v.pivot.seen) c.enter-pivot.ensures.view,
  tt,
  e.grown,
  e.counts,
  (λ b x no t. t ∙ sym (e.others b (lacks_same b s.held.items s.place.me.0.lock.owes (sym c.enter-pivot.ensures.sits.keys) (subst (λ v. Lacks b v.lock.owes) e.same.1 no)))),
  (λ f. refl),
  λ t h. h,
)

pub release_all-requires : goal.release_all-requires
release_all-requires g c = let e = c.append_held.ensures in let r = c.lock_all.ensures in let f = c.enter-pivot.ensures in let l = c.leave.ensures in
    let own : HasTicket _ (record c.lock_all.new.acquire { seat = c.enter-pivot.new.seat }) = record {
      drawn = f.same.2 ∙ r.holds.own.drawn;
      counted = r.holds.own.counted;
      room = λ unsealed. subst (λ (l : _). c.args.board.now.table.shared.table_id.slots ≤ vec_capacity l + 1) (sym f.same.1) (r.holds.own.room unsealed);
    } in
    let held = (e.holds true _ (record { sits = f.sits; own = own })).own in
    record {
      holds = record {
        sits = l.sits;
        own = record {
          drawn = l.same.2 ∙ held.drawn;
          counted = held.counted;
          room = λ unsealed. subst (λ (l : _). c.args.board.now.table.shared.table_id.slots ≤ vec_capacity l + 1) (sym l.same.1) (held.room unsealed);
        };
      };
      unsealed = e.same.0.1 ∙ r.unsealed;
      owed = l.owed;
      idle = ap (λ v. v.task) l.view.2 ∙ (ap (λ v. v.task) e.same.1 ∙ (ap (λ v. v.task) f.view ∙ r.idle));
    }

pub returns : goal.returns
returns g c = let r = c.release_all.ensures.ready in (c.end.ensures.outside _ r.holds, ap (λ s. s.place.me.0.task) c.end.ensures.seat ∙ r.idle)
