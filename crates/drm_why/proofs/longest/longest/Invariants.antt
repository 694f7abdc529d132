use Rattle.drm_why.specs.Longest.{LongestIs}
use Rattle.drm_why.proofs.longest.longest.Given as goal

abbrev pub invariant-loop-number : goal.invariant-loop-number
invariant-loop-number l = LongestIs l.changes l.place l.number l.longest
