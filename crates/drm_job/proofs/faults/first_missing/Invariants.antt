use Rattle.std.proofs.Common.{◌≡◌, map, drop, nat_le}
use Rattle.std.specs.Prelude.{find}
use Rattle.drm_job.proofs.faults.first_missing.Given as goal

abbrev pub invariant-loop-buffer : goal.invariant-loop-buffer
invariant-loop-buffer l =
    find (λ b. nat_le l.buffers b) (map (λ d. d.0) (drop l.buffer-index l.declared)) ≡ find (λ b. nat_le l.buffers b) (map (λ d. d.0) l.declared)
