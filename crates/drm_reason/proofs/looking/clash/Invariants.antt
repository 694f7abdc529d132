use Rattle.std.proofs.Common.{◌≡◌, ◌&&◌, ◌==◌, drop}
use Rattle.std.specs.Prelude.{find}
use Rattle.drm_job.specs.Conflicts.{must_wait}
use Rattle.drm_reason.proofs.looking.clash.Given as goal

abbrev pub invariant-loop-other : goal.invariant-loop-other
invariant-loop-other l =
    find (λ e. (l.buffer == e.0) && must_wait l.access e.1) (drop l.other-index l.declared)
    ≡ find (λ e. (l.buffer == e.0) && must_wait l.access e.1) l.declared
