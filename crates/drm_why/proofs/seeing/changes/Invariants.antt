use Rattle.drm_why.proofs.Changed.{ChangesOn}
use Rattle.drm_why.proofs.seeing.changes.Given as goal

abbrev pub invariant-loop-place : goal.invariant-loop-place
invariant-loop-place l = ChangesOn l.seens l.before l.place l.clock l.changes.items
