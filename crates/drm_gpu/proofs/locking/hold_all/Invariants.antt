use Rattle.drm_gpu.specs.Submissions.{HasTaken}
use Rattle.drm_gpu.proofs.locking.hold_all.Given as goal

-- the rounds so far
abbrev pub invariant-loop : goal.invariant-loop
invariant-loop g l = HasTaken l.fn.gpu l.fn.job l.fn.acquire l.acquire
