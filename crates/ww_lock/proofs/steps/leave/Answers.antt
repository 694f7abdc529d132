use Rattle.std.proofs.Common.{◌≡◌, refl, ap, sym, subst, ℕ, List, map, ◌∙◌}
use Rattle.ww_lock.specs.declared.board.TaskChange.{TaskChange}
use Rattle.ww_lock.specs.declared.board.Slot.TheVariants.{Announced}
use Rattle.ww_lock.specs.Leaving.{MayLeave}
use Rattle.ww_lock.specs.Steps.{number_of}
use Rattle.ww_lock.proofs.Kept.{leaves}
use Rattle.ww_lock.proofs.steps.leave.Goals as goal

pub compare_exchange_with-requires : goal.compare_exchange_with-requires
compare_exchange_with-requires g c = let ward = g.W.Ward in let place = c.args.place.now in let q = c.args.pivot.value in let xs = c.of.result.value.items in let change = c.of-2.result.value in
    let held : c.args.held.now.items ≡ xs = ap (λ v. v.items) (sym c.of.ensures) in
    let may : MayLeave ward.facts place.me.0 xs q change = subst (λ (z : List (ℕ × g.row.W-Value.Denot) × TaskChange g.row.W-Task.Denot). MayLeave ward.facts place.me.0 z.0 q z.1) (λ i. (held i, sym c.of-2.ensures i)) c.requires.facts in
    let seat = c.requires.seat in
    (c.requires.table.0, c.requires.table.1, leaves ward.facts ward.lawful c.args.shared.now.key.posts _ place.id place.me (Announced (record { pivot = c.args.pivot; held = c.of.result; change = c.of-2.result; is_call = c.args.is_call })) c.args.is_call change q xs may refl seat.0 seat.1 (seat.2 ∙ ap (map number_of) held))
