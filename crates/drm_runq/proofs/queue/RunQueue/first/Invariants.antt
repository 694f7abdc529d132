use Rattle.std.proofs.Common.{◌≡◌, ℕ, ◌<◌, false, slice_get, Some}
use Rattle.drm_runq.specs.declared.queue.Place.{Place}
use Rattle.drm_runq.proofs.queue.RunQueue.first.Given as goal

abbrev pub invariant-loop-place : goal.invariant-loop-place
invariant-loop-place g l =
    (i : ℕ) (p : Place) → i < l.place-index → slice_get l.place-items i ≡ Some p → goal.F-post g l.ready p.entity false
