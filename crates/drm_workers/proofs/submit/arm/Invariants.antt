use Rattle.std.proofs.Common.{◌≡◌, []}
use Rattle.drm_workers.specs.Armings.{HasArmed}
use Rattle.drm_workers.proofs.submit.arm.Given as goal

abbrev pub invariant-loop : goal.invariant-loop
invariant-loop g l = HasArmed [] l.fn.planned.submission.pass l.planned.submission.pass × (l.planned.submission.job ≡ l.fn.planned.submission.job)
