use Rattle.std.proofs.Common.{◌≡◌, ◌<◌, ◌≤◌, ℕ, Some, slice_get}
use Rattle.drm_fence.specs.Fences.{has_ended_at}
use Rattle.drm_resv.specs.Reservation.{WithRoom}
use Rattle.drm_state.specs.Uses.{HasUse}
use Rattle.drm_state.proofs.uses.add_held_uses.Given as goal

abbrev pub invariant-loop-buffer : goal.invariant-loop-buffer
invariant-loop-buffer l = record {
  done : (k : ℕ) (h : ℕ × WithRoom) → k < l.buffer-index → slice_get l.initial.held k ≡ Some h
      → (m : ℕ × WithRoom) × (slice_get l.held k ≡ Some m) × (m.0 ≡ h.0) × HasUse (has_ended_at l.timeline.list) l.fence l.job h.0 h.1 m.1;
  rest : (k : ℕ) → l.buffer-index ≤ k → slice_get l.held k ≡ slice_get l.initial.held k;
}
