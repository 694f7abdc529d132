use Rattle.drm_why.specs.Totals.{AreCounted}
use Rattle.drm_why.proofs.totals.held_totals.Given as goal

abbrev pub invariant-loop-number : goal.invariant-loop-number
invariant-loop-number l = AreCounted l.ring l.rows l.number l.totals.items
