use Rattle.std.proofs.Common.{rules, arith, ◌≡◌, ◌≢◌, ℕ, ◌<◌, ◌≤◌, take, length, sym, ap, ◌∙◌, subst, add-one, take_all}
use mathlib.Core.Option.{some}
use Rattle.atomic_table.proofs.Lists.{at_index}
use Rattle.ww_lock.specs.Held.{Lacks}
use Rattle.ww_lock.proofs.Finding.{lacks_more, first_place}
use Rattle.ww_lock.proofs.acquire.place_of.Goals as goal

pub returns-then-eq-clause-found : goal.returns-then-eq-clause-found
returns-then-eq-clause-found g c = let e = c.index-entry.result.now in let l : c.loop-i.i < length c.args.held.now.items = (let t = c.loop-i-test.true in let n = c.len.ensures in first_of (search rules, omega arith)) in let same : e.0 ≡ c.args.buffer = search rules in
    (e.1, at_index c.args.held.now.items c.loop-i.i e l c.index-entry.ensures ∙ ap (λ (k : ℕ). some (k, e.1)) same)

pub returns-then-eq-clause-first : goal.returns-then-eq-clause-first
returns-then-eq-clause-first g c = let e = c.index-entry.result.now in let l : c.loop-i.i < length c.args.held.now.items = (let t = c.loop-i-test.true in let n = c.len.ensures in first_of (search rules, omega arith)) in let same : e.0 ≡ c.args.buffer = search rules in
    first_place c.args.buffer c.args.held.now.items c.loop-i.i e.1 (at_index c.args.held.now.items c.loop-i.i e l c.index-entry.ensures ∙ ap (λ (k : ℕ). some (k, e.1)) same) c.loop-i.invariant.1

pub loop-i-preserved : goal.loop-i-preserved
loop-i-preserved g c = let e = c.index-entry.result.now in let l : c.loop-i.i < length c.args.held.now.items = (let t = c.loop-i-test.true in let n = c.len.ensures in first_of (search rules, omega arith)) in let ne : e.0 ≢ c.args.buffer = search rules in
    (omega arith, subst (λ k. Lacks c.args.buffer (take k c.args.held.now.items)) (sym (add-one c.loop-i.i)) (lacks_more c.args.buffer c.args.held.now.items c.loop-i.i e (at_index c.args.held.now.items c.loop-i.i e l c.index-entry.ensures) ne c.loop-i.invariant.1))

pub returns-clause-found : goal.returns-clause-found
returns-clause-found g c = let l : length c.args.held.now.items ≤ c.loop-i.i = (let t = c.loop-i-test.false in let n = c.len.ensures in first_of (search rules, omega arith)) in
    subst (Lacks c.args.buffer) (take_all c.loop-i.i c.args.held.now.items l) c.loop-i.invariant.1
