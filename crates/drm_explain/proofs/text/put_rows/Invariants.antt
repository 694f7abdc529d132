use Rattle.std.proofs.Common.{◌≡◌, ◌++◌, drop, flat_map, map}
use Rattle.drm_explain.specs.Rows.{told}
use Rattle.drm_explain.specs.Texts.{line_of}
use Rattle.drm_explain.proofs.text.put_rows.Given as goal

abbrev pub invariant-loop-row : goal.invariant-loop-row
invariant-loop-row l = l.text.items ++ flat_map line_of (map told (drop l.row-index l.table)) ≡ l.fn.text.items ++ flat_map line_of (map told l.table)
