use Rattle.std.proofs.Common.{ℕ, ◌<◌, drop}
use Rattle.drm_explorer.specs.Exploring.{IsWay}
use Rattle.drm_orders_tests.specs.Doubling.{Doubles}
use Rattle.drm_orders_tests.proofs.doubling.end_of.Given as goal

abbrev pub invariant-loop-more : goal.invariant-loop-more
invariant-loop-more l =
    (l.number < 8) × ((n : ℕ) → IsWay Doubles l.number (drop l.more-index l.way) n → IsWay Doubles 0 l.way n)
