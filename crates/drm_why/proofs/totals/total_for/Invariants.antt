use Rattle.std.proofs.Common.{◌≡◌, drop}
use Rattle.drm_why.specs.Totals.{total_from, total_of}
use Rattle.drm_why.proofs.totals.total_for.Given as goal

abbrev pub invariant-loop-number : goal.invariant-loop-number
invariant-loop-number l = total_from l.ring l.kind l.total (drop l.number l.rows) ≡ total_of l.ring l.kind l.rows
