use Rattle.std.proofs.Common.{rules, arith, refl}
use Rattle.ww_lock.proofs.Lists.{at_in}
use Rattle.ww_lock_tests.proofs.Held.{keys_set}
use Rattle.ww_lock_tests.proofs.Numbers.{count_most, counted}
use Rattle.ww_lock_tests.proofs.appending.append.Goals as goal

pub overflow_add-value : goal.overflow_add-value
overflow_add-value c = let xs = c.args.acquire.now.seat.held.items in let e = c.requires.counts.1 c.args.buffer _ (at_in xs _ _ c.value-value.ensures.value) in
    let m = count_most c.args.buffer c.args.pivot.now.items in let room = c.requires.room in let k = c.args.pivot.now.ok in let s = c.args.pivot.now.small in first_of (omega arith, search rules)

pub returns-clause-counts : goal.returns-clause-counts
returns-clause-counts c = counted (λ x. x.times) c.args.buffer c.args.pivot.now.items c.push_reserved.new.self.items c.args.acquire.now.seat.held.items _ c.value-value.result.now _ c.requires.counts.0 c.requires.counts.1 c.value-value.ensures.value refl c.push_reserved.ensures.items

pub returns-clause-keys : goal.returns-clause-keys
returns-clause-keys c = keys_set c.args.acquire.now.seat.held.items _ c.args.buffer c.value-value.result.now _ c.value-value.ensures.value

pub returns-clause-holds : goal.returns-clause-holds
returns-clause-holds c inside z h = c.value-value.ensures.holds inside z _ h
