use Rattle.std.proofs.Common.{◌≡◌, ◌<◌, ℕ, Some, slice_get}
use Rattle.std.specs.Prelude.{IsTrue}
use Rattle.drm_resv.specs.Reservation.{WithRoom}
use Rattle.drm_state.specs.Held.{kept_of}
use Rattle.drm_gpu.proofs.submission.take_rooms.Given as goal

abbrev pub invariant-loop-resv : goal.invariant-loop-resv
invariant-loop-resv l = record {
  kept : kept_of l.held ≡ kept_of l.initial.held;
  room : (k : ℕ) (h : ℕ × WithRoom) → k < l.resv-index → slice_get l.held k ≡ Some h → IsTrue h.1.has_room;
}
