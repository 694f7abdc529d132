use Rattle.std.proofs.Common.{◌≡◌, refl, ap, sym, subst, ℕ, List, map, ◌∙◌, true}
use Rattle.ww_lock.specs.declared.board.Slot.TheVariants.{Announced}
use Rattle.ww_lock.specs.Leaving.{MayPost}
use Rattle.ww_lock.specs.Steps.{number_of}
use Rattle.ww_lock.proofs.Kept.{posts_one}
use Rattle.ww_lock.proofs.steps.post.Goals as goal

pub compare_exchange_with-requires : goal.compare_exchange_with-requires
compare_exchange_with-requires g c = let ward = g.W.Ward in let place = c.args.place.now in let q = c.args.pivot.value in let xs = c.of.result.value.items in let f = c.args.fence in
    let held : c.args.held.now.items ≡ xs = ap (λ v. v.items) (sym c.of.ensures) in
    let may : MayPost ward.facts place.me.0 xs q f c.args.new = subst (λ (ys : List (ℕ × g.row.W-Value.Denot)). MayPost ward.facts place.me.0 ys q f c.args.new) held c.requires.facts in
    let t = c.requires.table in let seat = c.requires.seat in
    (t.0, t.2, rw t.1 (posts_one ward.facts ward.lawful c.args.shared.now.key.posts _ place.id place.me (Announced (record { pivot = c.args.pivot; held = c.of.result; change = c.of-2.result; is_call = true })) q xs f c.args.old c.args.new may refl seat.0 (seat.1 ∙ ap (map number_of) held) t.3 (c.requires.found may.0 may.1)))
