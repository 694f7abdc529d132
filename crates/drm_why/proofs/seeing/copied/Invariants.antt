use Rattle.std.proofs.Common.{◌≡◌, ◌++◌, drop}
use Rattle.drm_why.proofs.seeing.copied.Given as goal

abbrev pub invariant-loop-number : goal.invariant-loop-number
invariant-loop-number l = l.copy.items ++ drop l.number l.links ≡ l.links
