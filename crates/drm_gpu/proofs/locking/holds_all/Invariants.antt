use Rattle.std.proofs.Common.{◌≡◌, ◌<◌, ℕ, Some, slice_get}
use Rattle.ww_lock.specs.Rule.{In}
use Rattle.drm_types.specs.declared.access.Access.{Access}
use Rattle.drm_resv.specs.Reservation.{WithRoom}
use Rattle.drm_gpu.proofs.locking.holds_all.Given as goal

abbrev pub invariant-loop-place : goal.invariant-loop-place
invariant-loop-place l = (k : ℕ) (d : ℕ × Access) → k < l.place → slice_get l.job.declared k ≡ Some d → (x : WithRoom) × In (d.0, x) l.held
