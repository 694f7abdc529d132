use Rattle.std.proofs.Common.{◌≡◌, ◌<◌, ℕ, Some, slice_get}
use Rattle.drm_resv.specs.Reservation.{WithRoom}
use Rattle.drm_gpu.proofs.locking.has_buffer.Given as goal

abbrev pub invariant-loop-place : goal.invariant-loop-place
invariant-loop-place l = (k : ℕ) (h : ℕ × WithRoom) → k < l.place → slice_get l.held k ≡ Some h → h.0 ≡ l.buffer → ⊥
