use Rattle.std.proofs.Common.{◌≡◌, None, replicate}
use Rattle.drm_sched.proofs.parts.no_marks.Given as goal

-- so far, that many
abbrev pub invariant-loop : goal.invariant-loop
invariant-loop l = l.marks.items ≡ replicate l.counter None
