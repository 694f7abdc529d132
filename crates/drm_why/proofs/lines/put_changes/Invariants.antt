use Rattle.std.proofs.Common.{◌≡◌, ◌++◌, drop, flat_map}
use Rattle.drm_why.specs.Lines.{line_of_change}
use Rattle.drm_why.proofs.lines.put_changes.Given as goal

abbrev pub invariant-loop-change : goal.invariant-loop-change
invariant-loop-change l = l.out.items ++ flat_map line_of_change (drop l.change-index l.changes) ≡ l.fn.out.items ++ flat_map line_of_change l.changes
