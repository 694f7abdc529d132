use Rattle.std.proofs.Common.{◌≡◌, ◌<◌, ℕ, Some, slice_get}
use Rattle.ww_lock.specs.Rule.{In}
use Rattle.drm_types.specs.declared.access.Access.{Access}
use Rattle.drm_gpu.specs.Submissions.{LocksOn, numbers_of}
use Rattle.drm_gpu.proofs.locking.lock_declared.Given as goal

-- the locks so far, and each declared buffer so far is held
abbrev pub invariant-loop-place : goal.invariant-loop-place
invariant-loop-place g l = record {
  on : LocksOn l.fn.gpu l.fn.job l.fn.acquire l.acquire;
  held : (k : ℕ) (d : ℕ × Access) → k < l.place → slice_get l.fn.job.declared k ≡ Some d → In d.0 (numbers_of l.acquire);
}
