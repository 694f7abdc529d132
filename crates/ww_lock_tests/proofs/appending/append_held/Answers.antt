use Rattle.std.proofs.Common.{rules, arith, ap, sym, subst, ◌∙◌, ◌<◌, ℕ, ◌∷◌, [], length, get_or}
use mathlib.Core.Option.{some}
use Rattle.atomic_table.proofs.Lists.{at_index}
use Rattle.std.proofs.lemmas.List.{length_push}
use Rattle.ww_lock.proofs.Lists.{at_in}
use Rattle.ww_lock_tests.specs.Numbers.{prefix_twice, count_of}
use Rattle.ww_lock.specs.Rule.{In}
use Rattle.ww_lock_tests.proofs.Held.{apart_same, key_in}
use Rattle.ww_lock_tests.proofs.Numbers.{keys_long, count_else}
use Rattle.ww_lock_tests.proofs.appending.append_held.Goals as goal

pub append-requires-clause-held : goal.append-requires-clause-held
append-requires-clause-held c = let xs = c.loop-i.acquire.seat.held.items in let i = c.loop-i.i in let e = c.index-held-i.result in let same = c.held-in-loop-i.ensures in
    let l : i < length xs = (let k = keys_long xs c.args.acquire.now.seat.held.items c.loop-i.invariant.5 in let p = c.loop-i-test.true in let q = c.held-i-end.ensures in first_of (search rules, omega arith)) in
    let at = at_index xs i e l (c.index-held-i.is ∙ ap (λ z. get_or z i e) same) ∙ ap (λ (n : ℕ). some (n, e.1)) (ap (λ z. z.0) c.index-held-i.is) in
    (i, (e.1, at))

pub append-requires-clause-counts : goal.append-requires-clause-counts
append-requires-clause-counts c = (apart_same c.loop-i.acquire.seat.held.items c.args.acquire.now.seat.held.items c.loop-i.invariant.5 c.requires.counts.0, c.loop-i.invariant.0)

pub loop-i-preserved : goal.loop-i-preserved
loop-i-preserved c = let xs = c.loop-i.acquire.seat.held.items in let i = c.loop-i.i in let e = c.index-held-i.result in let same = c.held-in-loop-i.ensures in
    let l : i < length xs = (let k = keys_long xs c.args.acquire.now.seat.held.items c.loop-i.invariant.5 in let p = c.loop-i-test.true in let q = c.held-i-end.ensures in first_of (search rules, omega arith)) in
    let at = at_index xs i e l (c.index-held-i.is ∙ ap (λ z. get_or z i e) same) ∙ ap (λ (n : ℕ). some (n, e.1)) (ap (λ z. z.0) c.index-held-i.is) in
    let v = c.loop-i.invariant in let a = c.append.ensures in let b = a.pushed in let room = v.6 in let n = ap length b.0 in let n₁ = length_push c.loop-i.pivot.items (get_or c.held-in-loop-i.result.now i e).0 in let k = b.1 in (
      a.counts,
      prefix_twice c.args.pivot.now.items c.loop-i.pivot.items c.append.new.pivot.items v.1 (_ ∷ [], sym b.0),
      (λ d h. ap (count_of d) b.0 ∙ count_else d _ c.loop-i.pivot.items
          (λ s. let k = key_in xs c.args.acquire.now.seat.held.items v.5 _ e.1 (at_in xs i _ at) in h k.0 (subst (λ n. In (n, k.0) c.args.acquire.now.seat.held.items) s k.1)) ∙ v.2 d h),
      (a.same.0.0 ∙ v.3.0, a.same.0.1 ∙ v.3.1, a.same.0.2 ∙ v.3.2),
      a.same.1 ∙ v.4,
      a.keys ∙ v.5,
      omega arith,
      λ n z h. a.holds n z (v.7 n z h),
    )
