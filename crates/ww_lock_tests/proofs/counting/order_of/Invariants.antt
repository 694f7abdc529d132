use Rattle.std.proofs.Common.{◌≡◌, ◌<◌, All, vec_len, vec_capacity}
use Rattle.ww_lock_tests.proofs.counting.order_of.Given as goal

abbrev pub invariant-loop-number : goal.invariant-loop-number
invariant-loop-number l = All (λ b. b < l.count) l.order.items × (vec_len l.order ≡ l.number) × (vec_capacity l.order ≡ vec_capacity l.initial.order)
