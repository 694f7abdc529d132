use Rattle.std.proofs.Common.{◌≡◌, length}
use Rattle.ww_lock.specs.Acquiring.{view}
use Rattle.drm_gpu.specs.Passes.{pass_of}
use Rattle.drm_gpu.specs.Submissions.{Holding}
use Rattle.drm_gpu.proofs.locking.release_all.Given as goal

abbrev pub invariant-loop-gpu : goal.invariant-loop-gpu
invariant-loop-gpu l = record {
  holding : Holding l.fn.gpu l.acquire;
  ticket : l.acquire.ticket ≡ l.fn.acquire.ticket;
  sealed : l.acquire.sealed ≡ l.fn.acquire.sealed;
  pass : pass_of l.fn.gpu.home (view l.acquire) ≡ pass_of l.fn.gpu.home (view l.fn.acquire);
}

abbrev pub decreases-loop-gpu : goal.decreases-loop-gpu
decreases-loop-gpu l = length l.acquire.seat.held.items
