use Rattle.std.proofs.Common.{rules, arith, sym, subst, ◌≡◌, ◌+◌, ℕ, List, ◌∷◌, map, set, length}
use Rattle.atomic_table.specs.Table.{opening}
use Rattle.ww_lock.specs.Rule.{Keeps, newcomer}
use Rattle.ww_lock.specs.Lifetime.{valued}
use Rattle.ww_lock.specs.declared.board.Slot.{Slot}
use Rattle.ww_lock.specs.declared.board.Slot.TheVariants.{Pivot}
use Rattle.ww_lock.proofs.Opening.{opens, first_words, zero_row}
use Rattle.ww_lock.proofs.board.Board.new.Goals as goal

pub new-requires : goal.new-requires
new-requires g c = let w = g.W.Ward in let n : ℕ = length c.args.values.items in
    let words : c.as_slice.result.now ≡ set (zero_row (n + 2 + c.args.posts)) 0 1 = search rules in let m : ℕ = n + c.args.posts in let f = first_words m in let e : n + c.args.posts + 2 ≡ n + 2 + c.args.posts = omega arith in
    let slots : c.in_ok-slots.slots.items ≡ Pivot c.args.pivot ∷ map valued c.args.values.items = search rules in
    subst (λ (z : List ℕ × List (Slot g.row.W-Pivot.Denot g.row.W-Value.Denot g.row.W-Task.Denot) × g.row.W-Pivot.Denot). Keeps w.facts c.args.posts (opening z.0 z.1 (newcomer z.2))) (λ i. (sym words i, sym slots i, sym c.of.ensures i))
    (subst (λ (k : ℕ). Keeps w.facts c.args.posts (opening (set (zero_row k) 0 1) (Pivot c.args.pivot ∷ map valued c.args.values.items) (newcomer c.args.pivot))) e (opens w.facts w.lawful c.args.posts c.args.pivot c.args.values.items (set (zero_row (m + 2)) 0 1) (let k = f.0 in omega arith) c.requires.blank f.1 f.2 c.requires.facts.0 c.requires.facts.1))
