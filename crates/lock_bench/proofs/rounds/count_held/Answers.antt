use Rattle.std.proofs.Common.{rules, arith, ap, ◌∙◌, ◌<◌, ℕ, length, length-set, get_or, false}
use mathlib.Core.Option.{some}
use Rattle.atomic_table.proofs.Lists.{at_index}
use Rattle.lock_bench.proofs.rounds.count_held.Goals as goal

pub value-value-requires : goal.value-value-requires
value-value-requires c = let xs = c.loop-i.acquire.seat.held.items in let i = c.loop-i.i in let e = c.index-held-i.result in let same = c.held.ensures in
    let l : i < length xs = (let k = c.loop-i.invariant.1 in let p = c.loop-i-test.true in let q = c.held-i-end.ensures in first_of (search rules, omega arith)) in
    (i, (e.1, at_index xs i e l (c.index-held-i.is ∙ ap (λ z. get_or z i e) same) ∙ ap (λ (n : ℕ). some (n, e.1)) (ap (λ z. z.0) c.index-held-i.is)))

pub loop-i-preserved : goal.loop-i-preserved
loop-i-preserved c = let e = c.value-value.ensures in (
  λ z h. (let r = c.loop-i.invariant.0 z h in record { holds = e.holds false z _ r.holds; unsealed = r.unsealed; owed = λ _ _ _ _ _ _ _. tt; idle = r.idle }),
  length-set c.loop-i.acquire.seat.held.items _ _ ∙ c.loop-i.invariant.1,
)
