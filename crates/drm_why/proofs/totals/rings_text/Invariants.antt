use Rattle.drm_why.specs.Totals.{TellsRings}
use Rattle.drm_why.proofs.totals.rings_text.Given as goal

abbrev pub invariant-loop-ring : goal.invariant-loop-ring
invariant-loop-ring l = TellsRings l.rows l.ring l.out.items
