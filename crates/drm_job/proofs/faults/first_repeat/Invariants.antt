use Rattle.std.proofs.Common.{◌≡◌, map, []}
use Rattle.drm_job.specs.Fault.{repeat_after}
use Rattle.drm_job.proofs.Repeats.{left_at}
use Rattle.drm_job.proofs.faults.first_repeat.Given as goal

abbrev pub invariant-loop-i : goal.invariant-loop-i
invariant-loop-i l = left_at l.declared l.i ≡ repeat_after [] (map (λ d. d.0) l.declared)
