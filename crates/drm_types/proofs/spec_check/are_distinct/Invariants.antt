use Rattle.std.proofs.Common.{◌≡◌, drop}
use Rattle.drm_types.specs.Limits.{are_distinct}
use Rattle.drm_types.proofs.spec_check.are_distinct.Given as goal

abbrev pub invariant-loop-i : goal.invariant-loop-i
invariant-loop-i l = are_distinct (drop l.i l.list) ≡ are_distinct l.list
