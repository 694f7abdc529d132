use Rattle.drm_why.specs.Totals.{MostIs}
use Rattle.drm_why.proofs.totals.most.Given as goal

abbrev pub invariant-loop-number : goal.invariant-loop-number
invariant-loop-number l = MostIs l.ring l.rows l.number l.most
