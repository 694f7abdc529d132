use Rattle.std.proofs.Common.{◌≡◌}
use Rattle.drm_workers.proofs.submit.plan.Given as goal

abbrev pub invariant-loop : goal.invariant-loop
invariant-loop g l = l.locked ≡ l.fn.locked
