use Rattle.std.proofs.Common.{take}
use Rattle.drm_sched.proofs.Watching.{IsWatching}
use Rattle.drm_sched.proofs.heads.watch_unmet.Given as goal

abbrev pub invariant-loop-dep : goal.invariant-loop-dep
invariant-loop-dep l = IsWatching l.journal l.entity l.ring (take l.dep-index l.deps) l.fn.waiters l.waiters
