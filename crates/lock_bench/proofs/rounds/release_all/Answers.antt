use Rattle.std.proofs.Common.{rules, arith, ap, ◌∙◌, ◌<◌, ℕ, length, get_or}
use mathlib.Core.Option.{some}
use Rattle.atomic_table.proofs.Lists.{at_index}
use Rattle.lock_bench.proofs.rounds.release_all.Goals as goal

pub release-requires-clause-held : goal.release-requires-clause-held
release-requires-clause-held c = let xs = c.loop-acquire.acquire.seat.held.items in let e = c.index-held-0.result in let same = c.held-in-loop-acquire.ensures in
    let l : 0 < length xs = (let k = c.held.ensures in let p = c.loop-acquire-test.true in first_of (search rules, omega arith)) in
    let at = at_index xs 0 e l (c.index-held-0.is ∙ ap (λ z. get_or z 0 e) same) ∙ ap (λ (n : ℕ). some (n, e.1)) (ap (λ z. z.0) c.index-held-0.is) in
    (0, (e.1, at))

pub loop-acquire-smaller : goal.loop-acquire-smaller
loop-acquire-smaller c = c.release.ensures.fewer

pub loop-acquire-preserved : goal.loop-acquire-preserved
loop-acquire-preserved c = c.release.ensures.ready c.loop-acquire.invariant
