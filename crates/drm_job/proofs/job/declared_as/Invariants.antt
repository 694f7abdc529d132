use Rattle.std.proofs.Common.{◌≡◌, ◌==◌, drop}
use Rattle.std.specs.Prelude.{find}
use Rattle.drm_job.proofs.job.declared_as.Given as goal

abbrev pub invariant-loop-other : goal.invariant-loop-other
invariant-loop-other l = find (λ d. d.0 == l.buffer) (drop l.other-index l.declared) ≡ find (λ d. d.0 == l.buffer) l.declared
