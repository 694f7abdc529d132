use Rattle.std.proofs.Common.{◌≡◌, None, replicate}
use Rattle.drm_sched.proofs.heads.empty_queues.Given as goal

-- so far, that many
abbrev pub invariant-loop : goal.invariant-loop
invariant-loop l = l.queues.items ≡ replicate l.counter (replicate l.entities None)
