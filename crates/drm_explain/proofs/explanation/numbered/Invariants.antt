use Rattle.std.proofs.Common.{◌≡◌, ◌==◌, find, length, map}
use Rattle.drm_explain.specs.Rows.{told}
use Rattle.drm_explain.proofs.explanation.numbered.Given as goal

abbrev pub invariant-loop-table : goal.invariant-loop-table
invariant-loop-table l = find (λ row. row.number == l.number) (map told l.table) ≡ find (λ row. row.number == l.number) (map told l.initial.table)

abbrev pub decreases-loop-table : goal.decreases-loop-table
decreases-loop-table l = length l.table
