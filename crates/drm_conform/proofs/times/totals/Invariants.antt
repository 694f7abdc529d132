use Rattle.drm_conform.specs.Tables.{AreTotals}
use Rattle.drm_conform.proofs.times.totals.Given as goal

abbrev pub invariant-loop-job : goal.invariant-loop-job
invariant-loop-job l = AreTotals l.index l.job l.rows.items
