use Rattle.drm_expect.specs.Lines.{NoEqualsBefore}
use Rattle.drm_expect.proofs.lines.equals.Given as goal

abbrev pub invariant-loop-place : goal.invariant-loop-place
invariant-loop-place l = NoEqualsBefore l.line l.place
