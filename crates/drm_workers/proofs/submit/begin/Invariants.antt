use Rattle.std.proofs.Common.{◌≡◌}
use Rattle.drm_workers.proofs.submit.begin.Given as goal

abbrev pub invariant-loop : goal.invariant-loop
invariant-loop g l = (l.pass ≡ l.fn.pass) × (l.job ≡ l.fn.job)
