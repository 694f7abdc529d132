use Rattle.std.proofs.Common.{◌≡◌, find, length, map}
use Rattle.std.specs.Fmt.{decimal}
use Rattle.std.specs.Str.{bytes_eq}
use Rattle.drm_explain.specs.Rows.{told}
use Rattle.drm_explain.proofs.explanation.spelled.Given as goal

abbrev pub invariant-loop-table : goal.invariant-loop-table
invariant-loop-table l = find (λ row. bytes_eq (decimal row.number) l.word) (map told l.table) ≡ find (λ row. bytes_eq (decimal row.number) l.word) (map told l.initial.table)

abbrev pub decreases-loop-table : goal.decreases-loop-table
decreases-loop-table l = length l.table
