use Rattle.std.proofs.Common.{◌≡◌, drop}
use Rattle.std.specs.Prelude.{find}
use Rattle.drm_job.specs.Uses.{is_move}
use Rattle.drm_job.proofs.faults.first_moved.Given as goal

abbrev pub invariant-loop-buffer : goal.invariant-loop-buffer
invariant-loop-buffer l = find (λ d. is_move d.1) (drop l.buffer-index l.declared) ≡ find (λ d. is_move d.1) l.declared
